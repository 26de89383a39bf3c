-- Names in a list, and where a name stands.
pub use Rattle.plan_names.specs.Naming.{place_of, AreDistinct}
