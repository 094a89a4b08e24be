-- Whose turn is next.
use Rattle.std.proofs.Common.{◌≡◌, ℕ, zero, suc, ◌+◌, ◌*◌, ◌≤◌, ◌<◌, cond, Bool, true, false, ◌&&◌, List, refl, sym, ap, ◌∙◌, arith, add-one}
use Rattle.std.specs.Prelude.{nat_le, nat_lt, max, slice_index_or}
use Rattle.std.proofs.lemmas.Bool.Decides.{nat_tests}
use Rattle.dg_script.specs.Sizes.{most_used_bytes}
use Rattle.dg_rehearse.specs.Courses.{Agenda}
use Rattle.dg_rehearse.specs.Ended.{turn_room}
use Rattle.dg_rehearse.specs.Courses.{last_moment}
use Rattle.dg_rehearse.specs.Turns.{coming_by, coming_for, coming_now, earlier_of, first_turn, is_cut_first, next_moment, not_before, within_time}
use Rattle.dg_rehearse.specs.declared.plan.Ending.TheVariants.{OutOfTime, TooLong}
use Rattle.dg_rehearse.specs.declared.plan.Plan.{Plan}
use Rattle.dg_rehearse.specs.declared.schedule.Coming.{Coming}
use Rattle.dg_rehearse.specs.declared.schedule.Coming.TheVariants as coming
use Rattle.dg_rehearse.specs.declared.schedule.Next.{Next}

not_less : (n d : ℕ) → d ≤ n → nat_lt n d ≡ false
not_less n d l = grind (arith, nat_tests)

is_less : (n d : ℕ) → n < d → nat_lt n d ≡ true
is_less n d l = grind (arith, nat_tests)

abbrev pub next_at : (mote moment : ℕ) → Next
next_at mote moment = record { mote = mote; moment = moment }

pub first_none : (turns : List ℕ) → ◌≡◌ {A = Next} (record { mote = 0; moment = last_moment }) (first_turn turns 0)
unfolding first_turn
first_none turns = refl

pub first_more : (turns : List ℕ) (m : ℕ) (before after : Next) (moment : ℕ) → before ≡ first_turn turns m → moment ≡ slice_index_or turns m last_moment → after ≡ earlier_of before (record { mote = m; moment = moment }) → after ≡ first_turn turns (m + 1)
unfolding first_turn
first_more turns m before after moment first here is =
    is ∙ ap (λ (x : Next). earlier_of x (record { mote = m; moment = moment })) first ∙ ap (λ (k : ℕ). earlier_of (first_turn turns m) (record { mote = m; moment = k })) here ∙ ap (first_turn turns) (sym (add-one m))

-- what comes where there is room for it
pub coming_then : (p : Plan) (motes script : ℕ) (a : Agenda) (now moment : ℕ) (is_cut : Bool) (next : Next) (r : Coming) → script + turn_room ≤ most_used_bytes → next ≡ not_before now (first_turn a.turns motes) → is_cut ≡ is_cut_first a next → moment ≡ next_moment is_cut a now next
    → r ≡ within_time is_cut moment now (p.minutes * 60000) next → r ≡ coming_by p motes script a now
unfolding coming_by
coming_then p motes script a now moment is_cut next r room is cut at value =
    value
    ∙ ap (λ (k : ℕ). within_time is_cut k now (p.minutes * 60000) next) at
    ∙ ap (λ (b : Bool). within_time b (next_moment b a now next) now (p.minutes * 60000) next) cut
    ∙ ap (λ (x : Next). coming_for p a now x) is
    ∙ sym (ap (λ (b : Bool). cond b (coming.End TooLong) (coming_for p a now (not_before now (first_turn a.turns motes)))) (not_less most_used_bytes (script + turn_room) room))

pub coming_full : (p : Plan) (motes script : ℕ) (a : Agenda) (now : ℕ) → most_used_bytes < script + turn_room → coming.End TooLong ≡ coming_by p motes script a now
unfolding coming_by
coming_full p motes script a now full = sym (ap (λ (b : Bool). cond b (coming.End TooLong) (coming_for p a now (not_before now (first_turn a.turns motes)))) (is_less most_used_bytes (script + turn_room) full))
