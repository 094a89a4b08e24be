use Rattle.std.proofs.Common.{◌≡◌, ◌⊎◌, ℕ, ◌+◌, ◌-◌, ◌<◌, ◌≤◌, slice_index}
use Rattle.std.specs.Prelude.{◌==◌}
use Rattle.dg_plan.specs.Commands.{erase_kind, program_kind, laid_by}
use Rattle.dg_plan.proofs.recording.lay.Given as goal

abbrev pub invariant-loop-j : goal.invariant-loop-j
invariant-loop-j l = record {
  done : (k : ℕ) → l.first ≤ k → k < l.j → slice_index l.into k
      ≡ laid_by (l.command.kind == erase_kind) (l.command.kind == program_kind) l.chip l.bytes l.command (l.at + k - l.command.at)
      (slice_index l.initial.into k);
  rest : (k : ℕ) → (k < l.first) ⊎ (l.j ≤ k) → slice_index l.into k ≡ slice_index l.initial.into k;
}
