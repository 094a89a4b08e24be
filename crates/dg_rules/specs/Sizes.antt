-- The bounds of a run (docs/SCRIPTS.md, "Limits").
pub use Rattle.dg_script.specs.Sizes.{most_motes, most_content, most_events}
