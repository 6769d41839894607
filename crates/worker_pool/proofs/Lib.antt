mod Working
mod Zips
mod RowLemmas
mod SlotLemmas
mod BlockLemmas
mod DoneLemmas
mod KeptSlots
