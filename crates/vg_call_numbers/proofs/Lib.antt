mod GapLemmas
mod NumberLemmas
mod TakenLemmas
