-- An array has no more elements than its text has bytes, and one. The reader of JSON goes by steps, and none of them makes more
-- of anything: a byte begins one lexeme at most; lexemes give no more tokens than they are, and one for a fault at the end; an
-- array has no more items than there are tokens, as it is parsed in at most so many turns; and the data made of it have as many
-- elements as it has items. Each step is shown by induction on its list, or on the number of turns.
use Rattle.std.proofs.Common.{◌≡◌, ℕ, zero, suc, ◌+◌, ◌≤◌, Bool, true, false, List, [], ◌∷◌, length, Option, Some, None, option_map, option_and_then, refl, subst, arith}
use Rattle.std.specs.Prelude.{⊤}
use Rattle.json.specs.Token.{Token}
use Rattle.json.specs.Lex.{Lexeme, token, comma, colon, Class, quote, class, Mode, between, in_word, in_string, in_escape, lex_byte, lex, Place, fresh, after_value, after_comma, after_key, begins_colon, if_allowed, place_token, punctuate, tokens}
use Rattle.json.specs.Json as json
use Rattle.json.specs.Json.{Parse, parse_map, after_end_array, items_step, value_with}
use Rattle.serde_json.specs.Data.{Data, Items, item, no_members, array, number, object}
use Rattle.serde_json.specs.Read.{of_json, of_items, of_members, number_of, max_depth, read}
use Rattle.json_code.specs.Steps.{element_count, elements_of}

-- ---- tokens

-- a byte begins one lexeme at most
lex_byte-few : (m : Mode) (c : Class) (x : ℕ) (xs : List ℕ) (k : Mode → List Lexeme) (n : ℕ) → ((next : Mode) → length (k next) ≤ n) → length (lex_byte m c x xs k) ≤ n + 1
lex_byte-few between quote x xs k n few = omega (arith, few in_string)
lex_byte-few in_word quote x xs k n few = omega (arith, few in_word)
lex_byte-few in_string quote x xs k n few = omega (arith, few between)
lex_byte-few m c x xs k n few = omega (arith, few between, few in_word, few in_string, few in_escape)

-- a text has no more lexemes than bytes
lex-few : (m : Mode) (text : List ℕ) → length (lex m text) ≤ length text
unfolding lex
lex-few m [] = omega arith
lex-few m (x ∷ xs) = omega (arith, lex_byte-few m (class x) x xs (λ next. lex next xs) (length xs) (λ next. lex-few next xs))

-- a token is one token, also where it is refused
if_allowed-few : (b : Bool) (t : Token) (k : Place → List Token) (next : Place) (n : ℕ) → 1 ≤ n → ((q : Place) → length (k q) + 1 ≤ n) → length (if_allowed b t k next) ≤ n
if_allowed-few true t k next n some few = omega (arith, few next)
if_allowed-few false t k next n some few = omega arith

place_token-few : (p : Place) (t : Token) (b : Bool) (k : Place → List Token) (n : ℕ) → 1 ≤ n → ((q : Place) → length (k q) + 1 ≤ n) → length (place_token p t b k) ≤ n
place_token-few p Token.begin_object b k n some few = if_allowed-few _ _ k _ n some few
place_token-few p Token.end_object b k n some few = if_allowed-few _ _ k _ n some few
place_token-few p Token.begin_array b k n some few = if_allowed-few _ _ k _ n some few
place_token-few p Token.end_array b k n some few = if_allowed-few _ _ k _ n some few
place_token-few p (Token.key s) b k n some few = omega arith
place_token-few p (Token.string s) true k n some few = if_allowed-few _ _ k _ n some few
place_token-few p (Token.string s) false k n some few = if_allowed-few _ _ k _ n some few
place_token-few p (Token.number s) b k n some few = if_allowed-few _ _ k _ n some few
place_token-few p (Token.boolean c) b k n some few = if_allowed-few _ _ k _ n some few
place_token-few p Token.null b k n some few = if_allowed-few _ _ k _ n some few
place_token-few p Token.bad b k n some few = omega arith

-- lexemes give no more tokens than they are, and one for a fault at their end
token-few : (p : Place) (t : Token) (ls : List Lexeme) → ((q : Place) → length (punctuate q ls) ≤ length ls + 1)
    → length (place_token p t (begins_colon ls) (λ q. punctuate q ls)) ≤ suc (length ls) + 1
token-few p t ls few = place_token-few p t (begins_colon ls) (λ q. punctuate q ls) (suc (length ls) + 1) (omega arith) (λ q. omega (arith, few q))

punctuate-few : (p : Place) (ls : List Lexeme) → length (punctuate p ls) ≤ length ls + 1
unfolding punctuate
punctuate-few fresh [] = omega arith
punctuate-few after_value [] = omega arith
punctuate-few after_comma [] = omega arith
punctuate-few after_key [] = omega arith
punctuate-few fresh (token t ∷ ls) = token-few fresh t ls (λ q. punctuate-few q ls)
punctuate-few after_value (token t ∷ ls) = token-few after_value t ls (λ q. punctuate-few q ls)
punctuate-few after_comma (token t ∷ ls) = token-few after_comma t ls (λ q. punctuate-few q ls)
punctuate-few after_key (token t ∷ ls) = token-few after_key t ls (λ q. punctuate-few q ls)
punctuate-few fresh (comma ∷ ls) = omega arith
punctuate-few after_value (comma ∷ ls) = omega (arith, punctuate-few after_comma ls)
punctuate-few after_comma (comma ∷ ls) = omega arith
punctuate-few after_key (comma ∷ ls) = omega arith
punctuate-few fresh (colon ∷ ls) = omega arith
punctuate-few after_value (colon ∷ ls) = omega arith
punctuate-few after_comma (colon ∷ ls) = omega arith
punctuate-few after_key (colon ∷ ls) = omega (arith, punctuate-few fresh ls)

tokens-few : (text : List ℕ) → length (tokens text) ≤ length text + 1
tokens-few text = omega (arith, punctuate-few fresh (lex between text), lex-few between text)

-- ---- items

-- what there is, if there is one, is counted as some number at most
abbrev AtMost : {A : Type 0} → (A → ℕ) → ℕ → Option A → Type 0
AtMost count n None = ⊤
AtMost count n (Some a) = count a ≤ n

-- the items of an array
abbrev item_count : json.Items → ℕ
item_count json.no_items = 0
item_count (json.item j js) = item_count js + 1

-- the items of a value, if it is an array
abbrev count_in : json.Json → ℕ
count_in (json.array js) = item_count js
count_in _ = 0

-- as many turns, as many items
item_more : (j : json.Json) (n : ℕ) (o : Option (json.Items × List Token)) → AtMost (λ p. item_count p.0) n o → AtMost (λ p. item_count p.0) (suc n) (parse_map (json.item j) o)
item_more j n None few = tt
item_more j n (Some p) few = omega arith

turn-few : (p : Parse json.Json) (more : Parse json.Items) (n : ℕ) (ts : List Token) (o : Option (List Token)) (q : Option (json.Json × List Token))
    → ((rest : List Token) → AtMost (λ r. item_count r.0) n (more rest)) → p ts ≡ q → AtMost (λ r. item_count r.0) (suc n) (items_step (λ _. q) more ts o)
turn-few p more n ts (Some rest) q few e = omega arith
turn-few p more n ts None None few e = tt
turn-few p more n ts None (Some r) few e = item_more r.0 n (more r.1) (few r.1)

items-few : (p : Parse json.Json) (n : ℕ) (ts : List Token) → AtMost (λ r. item_count r.0) n (json.items p n ts)
unfolding json.items
items-few p zero ts = tt
items-few p (suc n) ts = turn-few p (json.items p n) n ts (after_end_array ts) (p ts) (λ rest. items-few p n rest) refl

array_made : (n : ℕ) (o : Option (json.Items × List Token)) → AtMost (λ r. item_count r.0) n o → AtMost (λ r. count_in r.0) (suc n) (parse_map json.array o)
array_made n None few = tt
array_made n (Some r) few = omega arith

object_made : (n : ℕ) (o : Option (json.Members × List Token)) → AtMost (λ r. count_in r.0) n (parse_map json.object o)
object_made n None = tt
object_made n (Some r) = omega arith

value_with-few : (a : Parse json.Items) (o : Parse json.Members) (ts : List Token) → ((rest : List Token) → AtMost (λ r. item_count r.0) (length rest) (a rest))
    → AtMost (λ r. count_in r.0) (length ts) (value_with a o ts)
value_with-few a o [] few = tt
value_with-few a o (Token.begin_object ∷ ts) few = object_made _ (o ts)
value_with-few a o (Token.end_object ∷ ts) few = tt
value_with-few a o (Token.begin_array ∷ ts) few = array_made (length ts) (a ts) (few ts)
value_with-few a o (Token.end_array ∷ ts) few = tt
value_with-few a o (Token.key s ∷ ts) few = tt
value_with-few a o (Token.string s ∷ ts) few = omega arith
value_with-few a o (Token.number s ∷ ts) few = omega arith
value_with-few a o (Token.boolean b ∷ ts) few = omega arith
value_with-few a o (Token.null ∷ ts) few = omega arith
value_with-few a o (Token.bad ∷ ts) few = tt

-- an array has no more items than tokens
value-few : (depth : ℕ) (ts : List Token) → AtMost (λ r. count_in r.0) (length ts) (json.value depth ts)
unfolding json.value
value-few zero ts = value_with-few (λ ts. None) (λ ts. None) ts (λ rest. tt)
value-few (suc d) ts = value_with-few (λ ts. json.items (json.value d) (length ts) ts) (λ ts. json.members (json.value d) (length ts) ts) ts (λ rest. items-few (json.value d) (length rest) rest)

-- ---- data

item_made : (n : ℕ) (d : Option Data) (ds : Option Items) → AtMost (λ items. length (elements_of items)) n ds → AtMost (λ items. length (elements_of items)) (n + 1) (option_and_then (λ e. option_map (item e) ds) d)
item_made n None ds few = tt
item_made n (Some d) None few = tt
item_made n (Some d) (Some ds) few = omega arith

of_items-few : (js : json.Items) → AtMost (λ items. length (elements_of items)) (item_count js) (of_items js)
of_items-few json.no_items = omega arith
of_items-few (json.item j js) = item_made (item_count js) (of_json j) (of_items js) (of_items-few js)

array_read : (n : ℕ) (o : Option Items) → AtMost (λ items. length (elements_of items)) n o → AtMost element_count n (option_map array o)
array_read n None few = tt
array_read n (Some items) few = few

other_read : {A : Type 0} (f : A → Data) → ((a : A) → element_count (f a) ≡ 0) → (o : Option A) → AtMost element_count 0 (option_map f o)
other_read f none None = tt
other_read f none (Some a) = omega (arith, none a)

of_json-few : (j : json.Json) → AtMost element_count (count_in j) (of_json j)
of_json-few json.null = omega arith
of_json-few (json.boolean b) = omega arith
of_json-few (json.number s) = other_read number (λ n. refl) (number_of s)
of_json-few (json.string s) = omega arith
of_json-few (json.array js) = array_read (item_count js) (of_items js) (of_items-few js)
of_json-few (json.object ms) = other_read object (λ n. refl) (of_members ms no_members)

last-few : (n : ℕ) (o : Option (json.Json × List Token)) → AtMost (λ r. count_in r.0) n o → AtMost count_in n (option_and_then (λ r. json.if_last r.0 r.1) o)
last-few n None few = tt
last-few n (Some (j, [])) few = few
last-few n (Some (j, t ∷ ts)) few = tt

weaker : (m n : ℕ) (o : Option Data) → m ≤ n → AtMost element_count m o → AtMost element_count n o
weaker m n None le few = tt
weaker m n (Some d) le few = omega arith

data_read : (n : ℕ) (o : Option json.Json) → AtMost count_in n o → AtMost element_count n (option_and_then of_json o)
data_read n None few = tt
data_read n (Some j) few = weaker (count_in j) n (of_json j) few (of_json-few j)

-- an array has no more elements than its text has bytes, and one
pub elements-few : (text : List ℕ) (value : Data) → read text ≡ Some value → element_count value ≤ length text + 1
elements-few text value is =
    let few = data_read (length (tokens text)) _ (last-few _ (json.value max_depth (tokens text)) (value-few max_depth (tokens text))) in
    let counted : element_count value ≤ length (tokens text) = subst (AtMost element_count (length (tokens text))) is few in
    omega (arith, tokens-few text)
