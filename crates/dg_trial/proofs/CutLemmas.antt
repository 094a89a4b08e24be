-- A cut of power is determined by its operation and its mask.
use Rattle.std.proofs.Common.{◌≡◌, ℕ, List, sym, ap, ◌∙◌}
use Rattle.std.specs.Prelude.{Result, Ok}
use Rattle.dg_base.specs.declared.events.Cut.{Cut}
use Rattle.dg_script.specs.Lines.{cut_with}
use Rattle.dg_script.specs.declared.fault.LineFault.{LineFault}
use Rattle.dg_script.proofs.FieldLemmas.{cut_with-ok}

ok_is : (a b : Cut) → ◌≡◌ {A = Result Cut LineFault} (Ok a) (Ok b) → a ≡ b
ok_is a b e = cc

pub one_cut : (a b : Cut) → a.after ≡ b.after → a.mask ≡ b.mask → a ≡ b
one_cut a b after mask =
    ok_is a b (sym (cut_with-ok a) ∙ ap (λ (n : ℕ). cut_with n a.mask) after ∙ ap (λ (m : List ℕ). cut_with b.after m) mask ∙ cut_with-ok b)
