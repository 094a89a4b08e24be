use Rattle.std.proofs.Common.{◌==◌, ℕ, ◌∙◌, refl, sym, ap, subst}
use Rattle.std.specs.Prelude.{Option}
use Rattle.std.specs.Option.{option_eq}
use Rattle.std.specs.BTreeMap.{Updates}
use Rattle.dg_moments.specs.declared.wholes.Wholes.{Wholes}
use Rattle.dg_moments.specs.Moments.{keeps_version}
use Rattle.dg_moments.specs.Wholes.{ChangesKept, image_at_cmp}
use Rattle.dg_moments.proofs.MotesLemmas.{same_options, other_option}
use Rattle.dg_moments.proofs.ChangeLemmas.{unchanged, changed_to_none, changed_to_some, others_kept, others_noted}
use Rattle.dg_moments.proofs.wholes.Wholes.change.Goals as goal

pub returns-then-eq-clause-changes : goal.returns-then-eq-clause-changes
returns-then-eq-clause-changes c =
    unchanged c.args.self.now c.args.motes c.args.mote c.args.image c.args.version c.args.at
    (sym c.kept_at.ensures ∙ same_options c.kept_at.result c.args.version (sym c.eq.ensures ∙ c.if-eq.true))

pub returns-in_default-clause-changes : goal.returns-in_default-clause-changes
returns-in_default-clause-changes c =
    changed_to_none c.args.self.now _ c.args.motes c.args.mote c.args.image c.args.version c.args.at c.in_default.is c.in_ok-keep.ensures refl refl refl

pub returns-in_default-clause-others : goal.returns-in_default-clause-others
returns-in_default-clause-others c =
    others_kept c.args.self.now _ c.args.mote c.args.image c.args.version c.in_ok-keep.ensures refl refl refl

pub returns-clause-changes : goal.returns-clause-changes
returns-clause-changes c =
    let mid : Wholes = record c.args.self.now { kept = c.keep.new.kept; moments = c.add_moment.new.moments } in
    let version = c.in-Some.version in
    subst (λ (o : Option ℕ). ChangesKept c.args.self.now c.note_all.new.self c.args.motes c.args.mote c.args.image o c.args.at) (sym c.in-Some.is)
    (changed_to_some c.args.self.now mid c.note_all.new.self c.args.motes c.args.mote c.args.image version c.args.at
    (ap (λ (o : Option ℕ). keeps_version o version) (sym c.kept_at.ensures)
    ∙ other_option c.kept_at.result version (ap (option_eq ◌==◌ c.kept_at.result) (sym c.in-Some.is) ∙ sym c.eq.ensures ∙ c.if-eq.false))
    (subst (λ (o : Option ℕ). Updates image_at_cmp c.args.self.now.kept c.keep.new.kept (record { mote = c.args.mote; image = c.args.image }) o) c.in-Some.is c.in_ok-keep.ensures)
    c.in_ok-add_moment.ensures refl refl c.in_ok-note_all.ensures.all c.note_all.ensures.kept c.note_all.ensures.moments)

pub returns-clause-others : goal.returns-clause-others
returns-clause-others c =
    let mid : Wholes = record c.args.self.now { kept = c.keep.new.kept; moments = c.add_moment.new.moments } in
    others_noted c.args.self.now mid c.note_all.new.self c.args.motes c.args.mote c.args.image c.in-Some.version c.args.at
    (subst (λ (o : Option ℕ). Updates image_at_cmp c.args.self.now.kept c.keep.new.kept (record { mote = c.args.mote; image = c.args.image }) o) c.in-Some.is c.in_ok-keep.ensures)
    c.in_ok-add_moment.ensures refl refl c.in_ok-note_all.ensures.all c.note_all.ensures.kept c.note_all.ensures.moments
