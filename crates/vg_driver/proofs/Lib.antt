pub mod RequestLemmas
pub mod ShortLemmas
pub mod HalfLemmas
pub mod OfferLemmas
pub mod TicketLemmas
pub mod Sent
