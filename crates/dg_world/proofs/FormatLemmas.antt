-- Boards that are formatted one after the other.
use Rattle.std.proofs.Common.{◌≡◌, ◌≢◌, ℕ, ◌+◌, ◌<◌, ◌≤◌, inl, inr, false, List, length, ap, sym, ◌∙◌, subst, arith}
use Rattle.std.specs.Prelude.{Some, Result, Err, slice_get}
use Rattle.std.proofs.Math.ListN.{length-set}
use Rattle.std.proofs.lemmas.Bool.{cases_eq, both_ways}
use Rattle.dg_nor.specs.Device.{Device, Endures}
use Rattle.dg_nor.specs.Fuse.{beneath_of}
use Rattle.dg_nor.specs.Reads.{ActStopped}
use Rattle.dg_control.specs.Store.{HasForm}
use Rattle.dg_volume.specs.Sizes.{new_form}
use Rattle.dg_volume.specs.Store.{Store}
use Rattle.dg_volume.specs.Stands.{Stands}
use Rattle.dg_world.specs.Counts.{AreSteady, IsSteady}
use Rattle.dg_world.specs.Formatted.{FirstBoards, FormatStops}
use Rattle.dg_world.specs.declared.format.FormatStopped.{FormatStopped}
use Rattle.dg_world.proofs.BoardLemmas.{Used, same_some, get_same, get_other}

pub same_err : {E : Type 0} (a b : E) → (let x : Result (Unit {0}) E = Err a in x ≡ Err b) → a ≡ b
same_err a b e = cc

-- the first n boards stand for the store, in the current form, and were not stopped
pub record FormattedTo (n : ℕ) (s : Store) (old new : List Device) : Type 0 where
  pub boards : FirstBoards n old new
  pub formatted : (m : ℕ) (d : Device) → m < n → slice_get new m ≡ Some d → Stands d.image s
  pub written : (m : ℕ) (d : Device) → m < n → slice_get new m ≡ Some d → HasForm d.image new_form
  pub awake : (m : ℕ) (d : Device) → m < n → slice_get old m ≡ Some d → d.stopped ≡ false
  pub calm : AreSteady old new

-- the board was not used before
pub unused : (n : ℕ) (old now new : List Device) (d e : Device) → FirstBoards n old now → Used n now new d e → slice_get old n ≡ Some d
unused n old now new d e first used = sym (first.others n (omega arith)) ∙ used.before

pub is_now : (n : ℕ) (now new : List Device) (d e : Device) → Used n now new d e → slice_get new n ≡ Some e
is_now n now new d e used = ap (λ (ds : List Device). slice_get ds n) used.after ∙ get_same now n d e used.before

pub differs_from_kept : (n m : ℕ) (now new : List Device) (d e : Device) → Used n now new d e → m ≢ n → slice_get new m ≡ slice_get now m
differs_from_kept n m now new d e used other = ap (λ (ds : List Device). slice_get ds m) used.after ∙ get_other now n m e other

endures_more : (n m : ℕ) (old now new : List Device) (d e a b : Device) → FirstBoards n old now → Used n now new d e → Endures (beneath_of d) (beneath_of e)
    → slice_get old m ≡ Some a → slice_get new m ≡ Some b → Endures (beneath_of a) (beneath_of b)
endures_more n m old now new d e a b first used kept here there =
    elim (cases_eq m n) [
      | inl same ↦
          let p : a ≡ d = same_some a d (sym here ∙ ap (slice_get old) same ∙ unused n old now new d e first used) in
          let q : b ≡ e = same_some b e (sym there ∙ ap (slice_get new) same ∙ is_now n now new d e used) in
          subst (λ (x : Device). Endures (beneath_of a) (beneath_of x)) (sym q) (subst (λ (x : Device). Endures (beneath_of x) (beneath_of e)) (sym p) kept)
      | inr other ↦ first.endures m a b here (sym (differs_from_kept n m now new d e used other) ∙ there)
    ]

-- the boards went on before, and so does the one that is used next
pub calm_more : (n : ℕ) (old now new : List Device) (d e : Device) → FirstBoards n old now → Used n now new d e → AreSteady old now → IsSteady d e → AreSteady old new
calm_more n old now new d e first used calm stays = λ m a b here there.
    elim (cases_eq m n) [
      | inl same ↦
          let p : d ≡ a = same_some d a (sym (unused n old now new d e first used) ∙ ap (slice_get old) (sym same) ∙ here) in
          let q : b ≡ e = same_some b e (sym there ∙ ap (slice_get new) same ∙ is_now n now new d e used) in
          subst (λ (x : Device). IsSteady a x) (sym q) (subst (λ (x : Device). IsSteady x e) p stays)
      | inr other ↦ calm m a b here (sym (differs_from_kept n m now new d e used other) ∙ there)
    ]

-- one more board was used
pub first_more : (n : ℕ) (old now new : List Device) (d e : Device) → FirstBoards n old now → Used n now new d e → Endures (beneath_of d) (beneath_of e) → FirstBoards (n + 1) old new
first_more n old now new d e first used kept =
    record {
      count = ap length used.after ∙ length-set now n e ∙ first.count;
      others = λ m h. let other : m ≢ n = omega (arith, h) in differs_from_kept n m now new d e used other ∙ first.others m (omega (arith, h));
      counts = λ m a b here there. (endures_more n m old now new d e a b first used kept here there).faults;
      endures = λ m a b here there. endures_more n m old now new d e a b first used kept here there;
    }

pub first_within : (n k : ℕ) (old new : List Device) → FirstBoards n old new → n ≤ k → FirstBoards k old new
first_within n k old new first within = record { count = first.count; others = λ m h. first.others m (omega (arith, h, within)); counts = first.counts; endures = first.endures }

-- one more board was formatted
pub formatted_more : (n : ℕ) (s : Store) (old now new : List Device) (d e : Device) → FormattedTo n s old now → Used n now new d e → Endures (beneath_of d) (beneath_of e) → d.stopped ≡ false → IsSteady d e → Stands e.image s → HasForm e.image new_form
    → FormattedTo (n + 1) s old new
formatted_more n s old now new d e to used kept awake stays stands form =
    record {
      boards = first_more n old now new d e to.boards used kept;
      formatted = λ m x h here. elim (cases_eq m n) [
        | inl same ↦ subst (λ (y : Device). Stands y.image s) (same_some e x (sym (is_now n now new d e used) ∙ ap (slice_get new) (sym same) ∙ here)) stands
        | inr other ↦ to.formatted m x (omega (arith, h, other)) (sym (differs_from_kept n m now new d e used other) ∙ here)
      ];
      written = λ m x h here. elim (cases_eq m n) [
        | inl same ↦ subst (λ (y : Device). HasForm y.image new_form) (same_some e x (sym (is_now n now new d e used) ∙ ap (slice_get new) (sym same) ∙ here)) form
        | inr other ↦ to.written m x (omega (arith, h, other)) (sym (differs_from_kept n m now new d e used other) ∙ here)
      ];
      awake = λ m x h here. elim (cases_eq m n) [
        | inl same ↦ subst (λ (y : Device). y.stopped ≡ false) (same_some d x (sym (unused n old now new d e to.boards used) ∙ ap (slice_get old) (sym same) ∙ here)) awake
        | inr other ↦ to.awake m x (omega (arith, h, other)) here
      ];
      calm = calm_more n old now new d e to.boards used to.calm stays;
    }

-- the next board stopped
pub format_stopped : (n motes : ℕ) (s : Store) (old now new : List Device) (d e : Device) → FormattedTo n s old now → Used n now new d e → ActStopped d e → n < motes → FormatStops n motes s old new
format_stopped n motes s old now new d e to used stopped known =
    record {
      known = known;
      before = d;
      after = e;
      was = unused n old now new d e to.boards used;
      is = is_now n now new d e used;
      stopped = stopped.stopped;
      cause = stopped.cause;
      formatted = λ m x h here. let other : m ≢ n = omega (arith, h) in to.formatted m x h (sym (differs_from_kept n m now new d e used other) ∙ here);
      awake = to.awake;
      behind = λ m h. let other : m ≢ n = omega (arith, h) in differs_from_kept n m now new d e used other ∙ to.boards.others m (omega (arith, h));
    }

pub board_of : (board : ℕ) (e : FormatStopped) (motes : ℕ) (chip : Store) (old new : List Device) → (let x : Result (Unit {0}) FormatStopped = Err (record { board = board }) in x ≡ Err e) → FormatStops board motes chip old new → FormatStops e.board motes chip old new
board_of board e motes chip old new is stops =
    let same : record { board = board } ≡ e = same_err _ _ is in
    subst (λ (x : FormatStopped). FormatStops x.board motes chip old new) same stops

-- what holds of a board that stopped
pub stopped_endures : (a b : Device) → ActStopped a b → Endures (beneath_of a) (beneath_of b)
stopped_endures a b s = record { faults = s.faults; cause = λ h. s.cause; stays = λ was. s.stopped; calm = λ awake. absurd (both_ways b.stopped awake s.stopped) }
