-- The outcome of a verb.
use Rattle.std.proofs.Common.{◌≡◌, ℕ, List, Option, Some, None, Result, Ok, Err, IsErrAnd, refl, sym, ap, subst, ◌∙◌, inl, inr, ⊎_elim, ◌⊎◌}
use Rattle.dg_words.specs.Counts.{Rose}
use Rattle.dg_nor.specs.Device.{Device, Halts}
use Rattle.dg_nor.specs.Reads.{Looked, ReadStopped}
use Rattle.dg_volume.specs.Store.{Store}
use Rattle.dg_volume.specs.Stands.{Stands, IsVolume, IsNoVolume}
use Rattle.dg_volume.specs.declared.volume.MountFault.{MountFault}
use Rattle.dg_volume.specs.declared.volume.MountFault.TheVariants as mount
use Rattle.dg_nor.proofs.ReadLemmas.{Looked_then}
use Rattle.dg_end.specs.Lines.{Outcome, text_outcome}
use Rattle.dg_end.specs.Conversions.{end_of_mount}
use Rattle.dg_end.specs.declared.ends.End.{End}
use Rattle.dg_end.specs.declared.ends.End.TheVariants as ends
use Rattle.dg_end.specs.declared.refusal.Refusal.{Refusal}
use Rattle.dg_tool.specs.Endings.{VerbEnding, Before, Reading, Acting, outcome_of, by_store, StandsAs}
use Rattle.dg_tool.specs.Done.{verb_rule, ActsAs, NeedsBoard, EndsAs, IsBoardStopped}
use Rattle.dg_tool.specs.inner.OneBoard.{IsBefore}
use Rattle.dg_tool.specs.inner.OneBoard.{OnStore, OnBoard}

-- ---- the exit of a `?`

-- what is proved of an end is proved of the answer that a `?` gives
pub at_end : {T : Type 0} (view : T → List ℕ) (P : Outcome → Type 0) (r : Result T End) (e : End) → IsErrAnd r (λ x. x ≡ e) → P (Err e) → P (text_outcome view r)
at_end view P (Ok x) e is h = absurd is
at_end view P (Err x) e is h = subst (λ (y : End). P (Err y)) (sym is) h

-- ---- the same on something else

pub acts_as : (ending : VerbEnding) (same l ac same2 l2 ac2 : Type 0) → (NeedsBoard ending ⊎ (same → same2)) → (l → l2) → (ac → ac2) → ActsAs ending same l ac → ActsAs ending same2 l2 ac2
acts_as (Before end) same l ac same2 l2 ac2 stays f g h = ⊎_elim (λ needs. absurd needs) (λ s. s h) stays
acts_as (Reading end) same l ac same2 l2 ac2 stays f g h = f h
acts_as (Acting outcome) same l ac same2 l2 ac2 stays f g h = g h

module _ (ending : VerbEnding) (same l ac halts same2 l2 ac2 halts2 : Type 0) (acts : ActsAs ending same l ac → ActsAs ending same2 l2 ac2) (f : l → l2) (g : halts → halts2) where
  rule_by : (outcome : Outcome) → (outcome ≡ outcome_of ending) × ActsAs ending same l ac → (outcome ≡ outcome_of ending) × ActsAs ending same2 l2 ac2
  rule_by outcome h = (h.0, acts h.1)

  pub ends_as : (outcome : Outcome) → (IsBefore outcome → same → same2) → EndsAs outcome ending same l ac halts → EndsAs outcome ending same2 l2 ac2 halts2
  ends_as (Ok text) stays h = rule_by (Ok text) h
  ends_as (Err ends.Memory) stays h = ⊎_elim (λ x. inl (f x)) (λ x. inr (acts x)) h
  ends_as (Err ends.ReadFault) stays h = (h.0, stays tt h.1)
  ends_as (Err ends.FlashFault) stays h = (h.0, g h.1)
  ends_as (Err ends.WriteFault) stays h = rule_by (Err ends.WriteFault) h
  ends_as (Err ends.LinkFault) stays h = rule_by (Err ends.LinkFault) h
  ends_as (Err ends.NotAVolume) stays h = rule_by (Err ends.NotAVolume) h
  ends_as (Err ends.NoImage) stays h = rule_by (Err ends.NoImage) h
  ends_as (Err ends.TooLong) stays h = rule_by (Err ends.TooLong) h
  ends_as (Err ends.TooMany) stays h = rule_by (Err ends.TooMany) h
  ends_as (Err (ends.NoBoard need have)) stays h = rule_by (Err (ends.NoBoard need have)) h
  ends_as (Err (ends.BadHex fault)) stays h = rule_by (Err (ends.BadHex fault)) h
  ends_as (Err (ends.BadLine number fault)) stays h = rule_by (Err (ends.BadLine number fault)) h
  ends_as (Err (ends.BadProfile fault)) stays h = rule_by (Err (ends.BadProfile fault)) h
  ends_as (Err (ends.Refused cause)) stays h = rule_by (Err (ends.Refused cause)) h

-- ---- on a board that stands for a store

pub halts_stopped : {n done : ℕ} {a b : Device} → Halts n done a b → IsBoardStopped a b
halts_stopped h = record { stopped = h.stopped; cause = h.cause }

module _ (acted halted : Device → Device → Type 0) (a b : Device) where
  pub made_store : (text told : List ℕ) → text ≡ told → acted a b → OnStore (Ok text) (Acting (Ok told)) acted halted a b
  made_store text told is did = record { rules = (ap (λ t. Ok t) is, did); stops = λ e. cc; of_verb = tt; on_board = λ h. h }

  -- memory ran out after the act
  pub memory_store : (ending : VerbEnding) → ActsAs ending (b ≡ a) (Looked a b) (acted a b) → OnStore (Err ends.Memory) ending acted halted a b
  memory_store ending h = record { rules = inr h; stops = λ e. cc; of_verb = tt; on_board = λ h. h }

  -- memory ran out where the board was read
  pub memory_read : (ending : VerbEnding) → Looked a b → OnStore (Err ends.Memory) ending acted halted a b
  memory_read ending h = record { rules = inl h; stops = λ e. cc; of_verb = tt; on_board = λ h. h }

  pub refused_store : (cause : Refusal) → Looked a b → OnStore (Err (ends.Refused cause)) (Reading (ends.Refused cause)) acted halted a b
  refused_store cause h = record { rules = (refl, h); stops = λ e. cc; of_verb = tt; on_board = λ h. h }

  pub stopped_store : (ending : VerbEnding) → NeedsBoard ending → halted a b → IsBoardStopped a b → OnStore (Err ends.FlashFault) ending acted halted a b
  stopped_store ending needs held stopped = record { rules = (needs, held); stops = λ _. stopped; of_verb = tt; on_board = λ h. h }

  pub image_store : acted a b → OnStore (Err ends.NoImage) (Acting (Err ends.NoImage)) acted halted a b
  image_store did = record { rules = (refl, did); stops = λ e. cc; of_verb = tt; on_board = λ h. h }

-- ---- a read before it

pub stopped_looked : (a m b : Device) → Looked a m → IsBoardStopped m b → IsBoardStopped a b
stopped_looked a m b l s = record {
  stopped = s.stopped;
  cause = ⊎_elim (λ e. inl (sym l.ran.stopped ∙ e)) (λ r. inr (subst (λ (n : ℕ). Rose n b.faults) l.ran.faults r)) s.cause;
}

pub looked_store : (outcome : Outcome) (ending : VerbEnding) (acted acted2 halted halted2 : Device → Device → Type 0) (a m b : Device)
    → NeedsBoard ending → Looked a m → (acted m b → acted2 a b) → (halted m b → halted2 a b) → OnStore outcome ending acted halted m b → OnStore outcome ending acted2 halted2 a b
looked_store outcome ending acted acted2 halted halted2 a m b needs l f g h = record {
  rules = ends_as ending (b ≡ m) (Looked m b) (acted m b) (halted m b) (b ≡ a) (Looked a b) (acted2 a b) (halted2 a b)
      (acts_as ending (b ≡ m) (Looked m b) (acted m b) (b ≡ a) (Looked a b) (acted2 a b) (inl needs) (λ x. Looked_then l x) f) (λ x. Looked_then l x) g outcome (λ before. absurd (h.on_board before)) h.rules;
  stops = λ e. stopped_looked a m b l (h.stops e);
  of_verb = h.of_verb;
  on_board = h.on_board;
}

-- ---- on a board, whatever it stands for

module _ (by : Store → VerbEnding) (acted halted : Option Store → Device → Device → Type 0) (a b : Device) where
  pub on_volume : (outcome : Outcome) → ((s : Store) → Stands a.image s → OnStore outcome (by s) (acted (Some s)) (halted (Some s)) a b) → IsVolume a.image → OnBoard outcome (verb_rule (StandsAs a.image) (λ chip. by_store chip by) acted halted) a b
  on_volume outcome h v = record {
    rules = rules;
    found = λ _. (Some v.0, v.1);
    stops = (h v.0 v.1).stops;
    of_verb = (h v.0 v.1).of_verb;
    on_board = (h v.0 v.1).on_board;
  }
    where
      rules : (chip : Option Store) → StandsAs a.image chip → EndsAs outcome (by_store chip by) (b ≡ a) (Looked a b) (acted chip a b) (halted chip a b)
      rules None none = absurd (none v.0 v.1)
      rules (Some s) stands = (h s stands).rules

  needs_chip : ((s : Store) → NeedsBoard (by s)) → (chip : Option Store) → NeedsBoard (by_store chip by)
  needs_chip needs None = tt
  needs_chip needs (Some s) = needs s

  -- it stopped, whatever it stands for
  pub stopped_board : ((s : Store) → NeedsBoard (by s)) → ((chip : Option Store) → StandsAs a.image chip → halted chip a b) → IsBoardStopped a b → OnBoard (Err ends.FlashFault) (verb_rule (StandsAs a.image) (λ chip. by_store chip by) acted halted) a b
  stopped_board needs held stopped = record {
    rules = λ chip stands. (needs_chip needs chip, held chip stands);
    found = λ h. absurd h;
    stops = λ _. stopped;
    of_verb = tt;
    on_board = λ h. h;
  }

  -- it is not a volume
  pub no_volume : IsNoVolume a.image → Looked a b → OnBoard (Err ends.NotAVolume) (verb_rule (StandsAs a.image) (λ chip. by_store chip by) acted halted) a b
  no_volume none looked = record { rules = rules; found = λ _. (None, none); stops = λ e. cc; of_verb = tt; on_board = λ h. h }
    where
      rules : (chip : Option Store) → StandsAs a.image chip → EndsAs (Err ends.NotAVolume) (by_store chip by) (b ≡ a) (Looked a b) (acted chip a b) (halted chip a b)
      rules None is = (refl, looked)
      rules (Some s) stands = absurd (none s stands)

  -- it was not mounted
  pub unmounted : (fault : MountFault) → ((s : Store) → NeedsBoard (by s)) → ((chip : Option Store) → StandsAs a.image chip → ReadStopped a b → halted chip a b)
      → (fault ≡ mount.Stopped → ReadStopped a b) → (fault ≡ mount.NotAVolume → IsNoVolume a.image) → (fault ≡ mount.NotAVolume → Looked a b) → OnBoard (Err (end_of_mount fault)) (verb_rule (StandsAs a.image) (λ chip. by_store chip by) acted halted) a b
  unmounted mount.Stopped needs held stopped none looked = stopped_board needs (λ chip stands. held chip stands (stopped refl)) (halts_stopped (stopped refl).halts)
  unmounted mount.NotAVolume needs held stopped none looked = no_volume (none refl) (looked refl)
