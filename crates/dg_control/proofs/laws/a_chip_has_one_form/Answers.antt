use Rattle.std.proofs.Common.{inl, inr, ⊎_elim, sym, subst, ◌∙◌}
use Rattle.dg_ledger.specs.Ledger.{count_of}
use Rattle.dg_nor.specs.Chip.{sector}
use Rattle.dg_control.specs.Places.{LastHolds}
use Rattle.dg_control.specs.Store.{current}
use Rattle.dg_control.proofs.PlaceLemmas.{in_form}
use Rattle.dg_control.proofs.PlacesLemmas.{told_of}
use Rattle.dg_control.proofs.CommitLemmas.{one_form}
use Rattle.dg_control.proofs.laws.a_chip_has_one_form.Goals as goal

pub returns-clause-one : goal.returns-clause-one
returns-clause-one c = one_form

pub returns-clause-told : goal.returns-clause-told
returns-clause-told c = λ chip v is. record { generation = count_of v.ledger; counted = is.counted; snapshot = v.snapshot; told = is.told }

pub returns-clause-known : goal.returns-clause-known
returns-clause-known c chip s room is =
    let x = told_of (sector chip (current is.generation)) s is.form is.told in
    ⊎_elim
    (λ old. inl (record { generation = is.generation; counted = is.counted; snapshot = s; told = subst (LastHolds (sector chip (current is.generation)) s) (sym x.in_form ∙ old) is.told }))
    (λ new. inr (record { generation = is.generation; counted = is.counted; snapshot = s; told = subst (LastHolds (sector chip (current is.generation)) s) (sym x.in_form ∙ new) is.told }))
    (in_form x.written).known

pub returns-clause-two : goal.returns-clause-two
returns-clause-two c chip n is =
    let x = told_of (sector chip (current is.generation)) is.snapshot n is.told in
    ⊎_elim (λ old. inl (sym x.in_form ∙ old)) (λ new. inr (sym x.in_form ∙ new)) (in_form x.written).known
