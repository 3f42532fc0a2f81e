mod PieceLemmas
mod SizeLemmas
mod PlaceLemmas
mod RunLemmas
mod ScanLemmas
mod ReadLemmas
