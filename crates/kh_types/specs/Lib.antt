-- The words of the definitions, one line each; a reader new to the code begins here.
--
-- Code          crossings, each a list of four arcs (slots 0 to 3, counterclockwise from the end of the under pass), and loops without any
-- crossing, arc a crossing has a number from 1, its place is one less; an arc has a number from 1 to twice the crossings
-- dart          one end of an arc: a slot of a crossing, by its place 4 * place + slot; `partner` is the other end, `turned` the next slot
-- classes       pairs of numbers joined: for each number the least of its class (`classes_of`); `Respects` f pairs: f is one on each pair
-- components    the classes of arcs under passes; `next` is the arc behind, head and tail are the darts where an arc enters and leaves
-- faces, pieces the classes of darts under face steps, of crossings under arcs; the sphere allows `planar_face_count` faces
-- checkerboard  one bit a crossing, so that each arc has one dart of either colour (`IsColoured`)
-- accepted      no rule is broken (`first_fault` is none); `IsAccepted` says the same in the words of the subject
-- state         a number whose bits choose the smoothing of each crossing; its circles are the classes under smoothings
-- generator     a state with a label, a number whose bits say v+ (0) or v- (1) for each circle, in the order of their least arcs
-- coefficient   the entry of the differential from a tail to a head, modulo p; an edge raises one bit of the state
-- dimension     generators less ranks at a quantum degree j and a homological degree i; `table` has all rows that are not 0
-- state_sum     the unnormalised Jones polynomial, coefficient by coefficient
-- block         the complex at one quantum degree, as matrices (`Complex`); a history is a list of pivots that are cancelled
-- Same p a b    a and b are one modulo p; `HasRank`, `IsDependent`, `Leaves` are the linear algebra of matrices given by their entries

-- codes, and how their parts are numbered
pub mod Code
pub mod RawCodes
pub mod Bits
pub mod Classes
pub mod Components
pub mod Darts
pub mod Faces
-- acceptance
pub mod Checkerboard
pub mod Colouring
pub mod Acceptance
pub mod Accepted
pub mod Colours
pub mod Directions
pub mod Inside
-- homology
pub mod Circles
pub mod CircleSteps
pub mod CircleNumbers
pub mod Edges
pub mod Generators
pub mod Differential
pub mod Rank
pub mod Table
pub mod StateSum
-- complexes
pub mod Complex
pub mod ComplexTests
pub mod History
-- general: residues, matrices, permutations, lists and worked examples
pub mod Residues
pub mod Products
pub mod MatrixRanks
pub mod Permutations
pub mod Walks
pub mod Filling
pub mod WorkedCodes
pub mod WorkedHistories
