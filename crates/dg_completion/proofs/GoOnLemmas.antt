-- What was played of a script continues with a rest.
use Rattle.std.proofs.Common.{◌≡◌, ℕ, Bool, List, [], ◌∷◌, ◌++◌, length, map, refl, sym, ap, subst, arith}
use Rattle.std.specs.List.{AllByRecursion, filter}
use Rattle.dg_script.specs.Items.{Item}
use Rattle.dg_rules.specs.World.{World}
use Rattle.dg_rules.specs.Changes.{is_reported}
use Rattle.dg_rules.specs.Runs.{Played, Plays}
use Rattle.dg_script.specs.Ranges.{EventInRange}
use Rattle.dg_rules.specs.Premises.{WorldAgrees, PlayedInRange, IsTrueThen, LeavesAgreement}
use Rattle.dg_rules.specs.Begins.{PlaysFrom}
use Rattle.dg_rounds.specs.Rounds.{times, rounds_of}
use Rattle.dg_base.specs.declared.events.Event.{Event}
use Rattle.dg_completion.specs.Rests.{IsFree, IsRest}
use Rattle.dg_completion.specs.Completion.{Follows, FreeLaw}
use Rattle.dg_completion.specs.Ends.{events_of, IsUncut}
use Rattle.dg_completion.specs.Met.{AppliesLaw, SpendLaw, applying, GoesOnLaw}
use Rattle.dg_completion.proofs.GrowLemmas.{all_append, rounds_free}
use Rattle.dg_completion.proofs.FreeLemmas.{true_free}
use Rattle.dg_completion.proofs.MetLemmas.{comes}

plays_join : (xs ys : List Played) (w u v : World) → Plays w xs u → Plays u ys v → Plays w (xs ++ ys) v
unfolding Plays
plays_join [] ys w u v a b = subst (λ x. Plays x ys v) (sym a) b
plays_join (x ∷ xs) ys w u v a b = (a.0, a.1, plays_join xs ys x.after u v a.2 b)

-- events that follow one another, as what was played
record AsPlayed (motes : ℕ) (reported : Bool) (w v : World) (es : List Event) : Type 0 where
  rest : List Played
  items : map (λ (p : Played). p.item) rest ≡ map (applying reported) es
  plays : Plays w rest v
  events : events_of rest ≡ es
  ranges : AllByRecursion (PlayedInRange motes) rest
  are_true : AllByRecursion IsTrueThen rest
  uncut : AllByRecursion IsUncut rest

as_played : (motes : ℕ) (reported : Bool) (es : List Event) (w v : World) → Follows w es v → AllByRecursion IsFree es → AllByRecursion (EventInRange motes) es → AsPlayed motes reported w v es
unfolding Plays Follows events_of
as_played motes reported [] w v f free fits = record { rest = []; items = refl; plays = f; events = refl; ranges = tt; are_true = tt; uncut = tt }
as_played motes reported (e ∷ es) w v f free fits =
    let more = as_played motes reported es f.0 v f.3 free.1 fits.1 in
    let p : Played = record { item = applying reported e; before = w; after = f.0; reports = filter (is_reported reported) f.1 } in
    record {
      rest = p ∷ more.rest;
      items = ap (λ (items : List Item). applying reported e ∷ items) more.items;
      plays = (refl, (f.1, f.2, refl), more.plays);
      events = ap (λ (events : List Event). e ∷ events) more.events;
      ranges = (record { event = fits.0; cut = tt }, more.ranges);
      are_true = (true_free w e free.0, more.are_true);
      uncut = (refl, more.uncut);
    }

module _
    (agrees : (u v : World) (played : List Played) → PlaysFrom u played v → AllByRecursion LeavesAgreement played × WorldAgrees v)
    (free : FreeLaw)
    (apply : AppliesLaw)
    (spend : SpendLaw) where
  pub goes_on_law : GoesOnLaw
  goes_on_law u before w n es reported from may =
      let good = (agrees u w before from).1 in
      let all = rounds_free (times n (rounds_of w.links)) es may.rest in
      let came = comes free apply spend es w good all in
      let known = as_played (length u.sites) reported es w came.v came.run all may.ranges in
      record {
        rest = known.rest;
        items = known.items;
        v = came.v;
        plays = record {
          agrees = from.agrees;
          off = from.off;
          plays = plays_join before known.rest u w came.v from.plays known.plays;
          ranges = all_append (PlayedInRange (length u.sites)) before known.rest from.ranges known.ranges;
          are_true = all_append IsTrueThen before known.rest from.are_true known.are_true;
        };
        ends = record {
          before = before;
          rest = known.rest;
          parts = refl;
          run = known.plays;
          sweeps = subst (IsRest w.links n) (sym known.events) may.rest;
          uncut = known.uncut;
          on = may.on;
          widths = may.widths;
          room = λ m there. omega (arith, came.room m, may.room m there);
        };
      }
