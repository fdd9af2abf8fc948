-- The law of src/laws.rt under its name, for the crates above.
pub use Rattle.ripso_border_run.proofs.Origin.{origin_is_what_option_130_said}
