-- Where names stand.
pub use Rattle.plan_names.proofs.Places.{bytes_eq-yes, bytes_eq-no, place_of-first, place_of-rest, slice_get-place_of}
