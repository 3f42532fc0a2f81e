mod TourLemmas
mod OneWalk
mod PartLemmas
mod PieceLemmas
mod CountLemmas
mod LayoutLemmas
mod TableLemmas
mod ShapeLemmas
