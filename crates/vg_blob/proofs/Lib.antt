pub mod BlobLemmas
