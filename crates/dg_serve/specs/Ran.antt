-- A service that was opened, and its link (docs/COMMANDS.md, "Serve").
use Rattle.std.specs.Prelude.{◌≡◌, ℕ, ◌≤◌, length, slice_index_or, None, Result, Ok, Err}
use Rattle.dg_words.specs.Counts.{Rose}
use Rattle.dg_base.specs.Clock.{Answered}
use Rattle.dg_base.specs.Outside.{Puts}
use Rattle.dg_netcfg.specs.declared.profile.NetProfile.{NetProfile}
use Rattle.dg_seed.specs.Draws.{first_generator, generator_of}
use Rattle.dg_outside.specs.Outside.{Outside, LinkState}
use Rattle.dg_end.specs.Lines.{status_of}
use Rattle.dg_serve.specs.Endings.{end_of_stop}
use Rattle.dg_serve.specs.Served.{LinkHas, Hindered}
use Rattle.dg_serve.specs.Traces.{lines_text, head_lines}
use Rattle.dg_serve.specs.declared.service.Service.{Service}
use Rattle.dg_serve.specs.declared.stop.Stop.{Stop}
use Rattle.dg_serve.specs.declared.stop.Stop.TheVariants as stop

-- The service is about to begin: its motes are off, the head of its trace is written, its link is open, and its clock was read.
pub record IsOpened (profile : NetProfile) (seed : ℕ) (a : Outside) (v : Service) (addressees reached : ℕ) (b : Outside)
    : Type 0 where
  pub motes : length v.motes.items ≡ profile.motes
  pub off : (m : ℕ) → slice_index_or v.motes.items m None ≡ None
  pub moment : v.timeline.moment ≡ 0
  pub draws : generator_of v.timeline.draws ≡ first_generator seed
  pub told : Answered a.clock b.clock v.timeline.reading
  pub known : v.timeline.reading ≤ reached
  pub addressees_are : addressees ≡ profile.motes
  pub put : Puts a.output.written b.output.written (lines_text (head_lines profile))
  pub link : LinkHas profile.motes profile a.link b.link
  pub writes : b.output.writes ≡ a.output.writes
  pub failures : b.link.failures ≡ a.link.failures

abbrev pub ServiceOpens : Result Service Stop → NetProfile → (seed : ℕ) → (a : Outside) → (addressees reached : ℕ) → (b : Outside)
    → Type 0
ServiceOpens (Ok v) profile seed a addressees reached b = IsOpened profile seed a v addressees reached b
ServiceOpens (Err why) profile seed a addressees reached b =
    Hindered (status_of (end_of_stop why)) profile a b × (b.clock ≡ a.clock)

-- the link was opened for this many motes, or had none
abbrev pub OpensLink : Result (Unit {0}) Stop → NetProfile → (addressees : ℕ) → (a b : LinkState) → Type 0
OpensLink (Ok u) profile addressees a b =
    LinkHas profile.motes profile a b × (b.failures ≡ a.failures) × (addressees ≡ profile.motes)
OpensLink (Err stop.Memory) profile addressees a b = LinkHas 0 profile a b × (b.failures ≡ a.failures)
OpensLink (Err stop.Link) profile addressees a b = LinkHas 0 profile a b × Rose a.failures b.failures
OpensLink (Err why) profile addressees a b = ⊥
