-- Loops over the pieces of a schedule.
use Rattle.std.proofs.Common.{◌≡◌, ℕ, zero, suc, ◌+◌, ◌-◌, ◌*◌, ◌<◌, ◌≤◌, List, [], ◌∷◌, ◌++◌, map, append-nil, append_assoc, ap, sym, ◌∙◌, subst, arith}
use Rattle.std.proofs.lemmas.List.{map-append}
use Rattle.std.specs.Prelude.{Ok, Err}
use Rattle.rand_pcg.specs.Lcg.{Lcg}
use Rattle.dg_base.specs.declared.events.Event.{Event}
use Rattle.dg_base.specs.declared.events.Event.TheVariants.{Reset, Inject}
use Rattle.dg_nor.specs.Device.{Device}
use Rattle.dg_rounds.specs.Rounds.{times}
use Rattle.dg_world.specs.declared.world.World.{World as KeptWorld}
use Rattle.dg_trial.specs.Schedule.{SchedulePart, always, resets, opening, disturbances, drawn}
use Rattle.dg_trial.specs.Playing.{PartsPlay, MayPlayOver, PartsGoOnLaw}
use Rattle.dg_end.specs.declared.ends.End.{End}
use Rattle.dg_trial.proofs.PartLemmas.{SoFar, so_far_none, so_far_more, so_far_stop, may_next}
use Rattle.dg_trial.proofs.ScheduleLemmas.{resets_none, resets_more, events_join, events_more, disturbances_none, disturbances_split, times_none, times_more}

-- prefixes of a list, each with one more piece
pub record Fronts (front piece : ℕ → List SchedulePart) : Type 0 where
  pub none : front 0 ≡ []
  pub more : (k : ℕ) → front (k + 1) ≡ front k ++ piece k

pub fronts_at : (front piece : ℕ → List SchedulePart) → Fronts front piece → (k d : ℕ) → (rest : List SchedulePart) × (front k ++ (piece k ++ rest) ≡ front (k + 1 + d))
fronts_at front piece f k zero =
    let e : k + 1 ≡ k + 1 + zero = omega arith in
    ([], ap (λ (xs : List SchedulePart). front k ++ xs) (append-nil (piece k)) ∙ sym (f.more k) ∙ ap front e)
fronts_at front piece f k (suc d) =
    let before = fronts_at front piece f k d in
    let n = k + 1 + d in
    let e : n + 1 ≡ k + 1 + suc d = omega arith in (
      before.0 ++ piece n,
      ap (λ (xs : List SchedulePart). front k ++ xs) (sym (append_assoc (piece k) before.0 (piece n))) ∙ sym (append_assoc (front k) (piece k ++ before.0) (piece n))
          ∙ ap (λ (xs : List SchedulePart). xs ++ piece n) before.1 ∙ sym (f.more n) ∙ ap front e,
    )

pub fronts_within : (front piece : ℕ → List SchedulePart) → Fronts front piece → (k n : ℕ) → k < n → (rest : List SchedulePart) × (front k ++ (piece k ++ rest) ≡ front n)
fronts_within front piece f k n h =
    let at = fronts_at front piece f k (n - k - 1) in
    let e : k + 1 + (n - k - 1) ≡ n = omega arith in
    (at.0, at.1 ∙ ap front e)

pub none_played : (front piece : ℕ → List SchedulePart) → Fronts front piece → (first : KeptWorld) (old : List Device) → SoFar (front 0) first first old old
none_played front piece f first old = subst (λ (xs : List SchedulePart). SoFar xs first first old old) (sym f.none) (so_far_none first old)

pub piece_may : PartsGoOnLaw → (front piece : ℕ → List SchedulePart) → Fronts front piece → (motes k n : ℕ) (first kept : KeptWorld) (old now : List Device) → k < n → MayPlayOver motes first old (front n) → SoFar (front k) first kept old now → MayPlayOver motes kept now (piece k)
piece_may law front piece f motes k n first kept old now h m s =
    let at = fronts_within front piece f k n h in
    may_next law motes (front k) (piece k) at.0 (front n) first kept old now m s at.1

pub piece_played : (front piece : ℕ → List SchedulePart) → Fronts front piece → (k : ℕ) (first k1 k2 : KeptWorld) (old mid now : List Device) → SoFar (front k) first k1 old mid → PartsPlay (Ok tt) (piece k) k1 k2 mid now → SoFar (front (k + 1)) first k2 old now
piece_played front piece f k first k1 k2 old mid now s played =
    subst (λ (xs : List SchedulePart). SoFar xs first k2 old now) (sym (f.more k)) (so_far_more (front k) (piece k) first k1 k2 old mid now s played)

pub piece_stopped : (stop : End) (front piece : ℕ → List SchedulePart) → Fronts front piece → (k n : ℕ) (first k1 k2 : KeptWorld) (old mid now : List Device) → k < n → SoFar (front k) first k1 old mid → PartsPlay (Err stop) (piece k) k1 k2 mid now → PartsPlay (Err stop) (front n) first k2 old now
piece_stopped stop front piece f k n first k1 k2 old mid now h s played =
    let at = fronts_within front piece f k n h in
    so_far_stop stop (front k) (piece k) at.0 (front n) first k1 k2 old mid now s played at.1

pub all_played : (front : ℕ → List SchedulePart) (k n : ℕ) (first kept : KeptWorld) (old now : List Device) → n ≤ k → k ≤ n → SoFar (front k) first kept old now → PartsPlay (Ok tt) (front n) first kept old now
all_played front k n first kept old now low high s =
    let e : k ≡ n = omega arith in
    (subst (λ (m : ℕ). SoFar (front m) first kept old now) e s).played

-- ---- the pieces

abbrev pub reset_front : ℕ → List SchedulePart
reset_front k = map always (resets k)

abbrev pub reset_piece : ℕ → List SchedulePart
reset_piece k = always (Reset k 0 0) ∷ []

pub reset_fronts : Fronts reset_front reset_piece
reset_fronts = record { none = ap (map always) resets_none; more = λ k. ap (map always) (resets_more k) ∙ events_more (resets k) (Reset k 0 0) }

abbrev pub disturbed_front : (motes : ℕ) → Lcg → ℕ → List SchedulePart
disturbed_front motes g k = disturbances motes k g

abbrev pub disturbed_piece : (motes : ℕ) → Lcg → ℕ → List SchedulePart
disturbed_piece motes g k = disturbances motes 1 (drawn k g)

pub disturbed_fronts : (motes : ℕ) (g : Lcg) → Fronts (disturbed_front motes g) (disturbed_piece motes g)
disturbed_fronts motes g = record { none = disturbances_none motes g; more = λ k. disturbances_split motes k 1 g }

abbrev pub swept_front : List Event → ℕ → List SchedulePart
swept_front es k = map always (times k es)

abbrev pub swept_piece : List Event → ℕ → List SchedulePart
swept_piece es k = map always es

pub swept_fronts : (es : List Event) → Fronts (swept_front es) (swept_piece es)
swept_fronts es = record { none = ap (map always) (times_none es); more = λ k. ap (map always) (times_more k es) ∙ map-append always (times k es) es }

-- ---- the events of a sweep

-- These events were given and played, and these are left.
pub record EventsSoFar (all given left : List Event) (first kept : KeptWorld) (old now : List Device) : Type 0 where
  pub so_far : SoFar (map always given) first kept old now
  pub parts : given ++ left ≡ all

pub events_none : (all left : List Event) (first : KeptWorld) (old : List Device) → left ≡ all → EventsSoFar all [] left first first old old
events_none all left first old e = record { so_far = so_far_none first old; parts = e }

pub event_may : PartsGoOnLaw → (motes : ℕ) (all given left others : List Event) (event : Event) (first kept : KeptWorld) (old now : List Device) → EventsSoFar all given left first kept old now → left ≡ event ∷ others → MayPlayOver motes first old (map always all) → MayPlayOver motes kept now (always event ∷ [])
event_may law motes all given left others event first kept old now s next m =
    may_next law motes (map always given) (always event ∷ []) (map always others) (map always all) first kept old now m s.so_far
    (events_join given others all event (ap (λ (xs : List Event). given ++ xs) (sym next) ∙ s.parts))

pub event_played : (all given left others : List Event) (event : Event) (first k k2 : KeptWorld) (old mid now : List Device) → EventsSoFar all given left first k old mid → left ≡ event ∷ others → PartsPlay (Ok tt) (always event ∷ []) k k2 mid now → EventsSoFar all (given ++ event ∷ []) others first k2 old now
event_played all given left others event first k k2 old mid now s next played =
    record {
      so_far = subst (λ (xs : List SchedulePart). SoFar xs first k2 old now) (sym (events_more given event)) (so_far_more (map always given) (always event ∷ []) first k k2 old mid now s.so_far played);
      parts = append_assoc given (event ∷ []) others ∙ ap (λ (xs : List Event). given ++ xs) (sym next) ∙ s.parts;
    }

pub event_stopped : (stop : End) (all given left others : List Event) (event : Event) (first k k2 : KeptWorld) (old mid now : List Device) → EventsSoFar all given left first k old mid → left ≡ event ∷ others → PartsPlay (Err stop) (always event ∷ []) k k2 mid now → PartsPlay (Err stop) (map always all) first k2 old now
event_stopped stop all given left others event first k k2 old mid now s next played =
    so_far_stop stop (map always given) (always event ∷ []) (map always others) (map always all) first k k2 old mid now s.so_far played
    (events_join given others all event (ap (λ (xs : List Event). given ++ xs) (sym next) ∙ s.parts))

pub events_all : (all given left : List Event) (first kept : KeptWorld) (old now : List Device) → EventsSoFar all given left first kept old now → left ≡ [] → PartsPlay (Ok tt) (map always all) first kept old now
events_all all given left first kept old now s none =
    (subst (λ (xs : List Event). SoFar (map always xs) first kept old now) (sym (append-nil given) ∙ ap (λ (xs : List Event). given ++ xs) (sym none) ∙ s.parts) s.so_far).played

-- ---- three pieces, one after the other

pub record Three (a b c whole : List SchedulePart) : Type 0 where
  pub first : a ++ (b ++ c) ≡ whole
  pub last : (a ++ b) ++ (c ++ []) ≡ whole
  pub all : (a ++ b) ++ c ≡ whole

three : (a b c whole : List SchedulePart) → a ++ (b ++ c) ≡ whole → Three a b c whole
three a b c whole e =
    let end : (a ++ b) ++ c ≡ whole = append_assoc a b c ∙ e in
    record { first = e; last = ap (λ (xs : List SchedulePart). (a ++ b) ++ xs) (append-nil c) ∙ end; all = end }

resting_split : (front d : List SchedulePart) (xs ys : List Event) → front ++ (d ++ (map always xs ++ map always ys)) ≡ front ++ (d ++ map always (xs ++ ys))
resting_split front d xs ys = ap (λ (ps : List SchedulePart). front ++ (d ++ ps)) (sym (map-append always xs ys))

-- the image is injected into the first mote
abbrev pub injected : List SchedulePart
injected = always (Inject 0 1 1 0 0) ∷ []

-- the resets, the injection and the disturbances with which a schedule begins
pub disturbed_pieces : (motes : ℕ) (d : List SchedulePart) → Three (map always (resets motes)) injected d (opening motes ++ d)
disturbed_pieces motes d = three (map always (resets motes)) injected d (opening motes ++ d) (sym (append_assoc (map always (resets motes)) injected d))

-- these, and the resets and the events of the sweeps that follow them
pub rested_pieces : (motes : ℕ) (d : List SchedulePart) (es : List Event) → Three (opening motes ++ d) (map always (resets motes)) (map always es) (opening motes ++ (d ++ map always (resets motes ++ es)))
rested_pieces motes d es =
    three (opening motes ++ d) (map always (resets motes)) (map always es) (opening motes ++ (d ++ map always (resets motes ++ es)))
    (append_assoc (opening motes) d (map always (resets motes) ++ map always es) ∙ resting_split (opening motes) d (resets motes) es)

pub played_so_far : (parts : List SchedulePart) (first kept : KeptWorld) (old now : List Device) → PartsPlay (Ok tt) parts first kept old now → SoFar parts first kept old now
played_so_far parts first kept old now p = record { played = p }
