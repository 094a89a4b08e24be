use Rattle.std.proofs.Common.{◌≡◌, ◌⊎◌, ⊎_elim, ℕ, ◌+◌, ◌-◌, ◌<◌, ◌≤◌, List, length, get_or, inl, inr, sym, ap, ◌∙◌, arith}
use Rattle.std.specs.Prelude.{◌==◌}
use Rattle.std.proofs.lemmas.Bool.{cases_lt}
use Rattle.std.proofs.lemmas.Grind.{same_number_lists}
use Rattle.dg_words.specs.Cells.{part}
use Rattle.dg_words.proofs.CellLemmas.{length-part, get_or-part}
use Rattle.dg_plan.specs.Commands.{erase_kind, program_kind, command_done, laid_by}
use Rattle.dg_plan.proofs.CommandLemmas.{length-command_done, laid_inside, laid_outside}
use Rattle.dg_plan.proofs.recording.lay.Goals as goal

pub returns : goal.returns
returns c = λ image used room size fits within same.
    let cmd = c.args.command.now in
    let chip = c.args.chip.now in
    let bytes = c.args.bytes.now in
    let at = c.args.at in
    let n = length c.args.into.now in
    let d = command_done bytes cmd image in
    let whole = length-command_done chip bytes used cmd image size room fits in
    let p : length (part d at n) ≡ n = length-part d at n (omega (arith, whole, within)) in
    let old : (k : ℕ) → k < n → get_or c.args.into.now k 0 ≡ get_or image (at + k) 0 = λ k l. ap (λ (xs : List ℕ). get_or xs k 0) same ∙ get_or-part image at n k 0 l in
    let outside : (k : ℕ) → k < n → (at + k < cmd.at) ⊎ (cmd.at + cmd.count ≤ at + k) → (k < c.saturating_sub-first.result) ⊎ (c.loop-j.j ≤ k) → get_or c.loop-j.into k 0 ≡ get_or d (at + k) 0 = λ k l o r.
    c.loop-j.invariant.rest k r ∙ old k l ∙ sym (laid_outside chip bytes used cmd image size room fits (at + k) o) in
    let inside : (k : ℕ) → k < n → cmd.at ≤ at + k → at + k < cmd.at + cmd.count → get_or c.loop-j.into k 0 ≡ get_or d (at + k) 0 = λ k l low high.
    let offset = at + k - cmd.at in
    let e : cmd.at + offset ≡ at + k = omega (arith, low) in
    c.loop-j.invariant.done k (omega arith) (omega arith)
    ∙ ap (laid_by (cmd.kind == erase_kind) (cmd.kind == program_kind) chip bytes cmd offset) (old k l ∙ ap (λ (i : ℕ). get_or image i 0) (sym e))
    ∙ sym (laid_inside chip bytes used cmd image size room fits offset (omega (arith, low, high)))
    ∙ ap (λ (i : ℕ). get_or d i 0) e in
    same_number_lists c.loop-j.into (part d at n) (omega (arith, p)) (λ k m.
    let l : k < n = omega (arith, m) in
    ⊎_elim
    (λ below. outside k l (inl below) (inl (omega arith)))
    (λ low. ⊎_elim (λ high. inside k l low high) (λ above. outside k l (inr above) (⊎_elim (λ f. inl f) (λ f. inr (omega arith)) (cases_lt k c.saturating_sub-first.result))) (cases_lt (at + k) (cmd.at + cmd.count)))
    (cases_lt (at + k) cmd.at) ∙ sym (get_or-part d at n k 0 l))
