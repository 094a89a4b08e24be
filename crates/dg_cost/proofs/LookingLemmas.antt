-- What is read of boards before a run.
use Rattle.std.proofs.Common.{◌≡◌, ℕ, zero, suc, ◌+◌, ◌<◌, ◌≤◌, List, [], ◌∷◌, ◌++◌, length, map, get_or, set, true, false, inl, inr, refl, sym, ap, subst, ◌∙◌, arith, length-append}
use Rattle.std.specs.Prelude.{slice_get, Option, Some, None, Result, Err, IsErrOf}
use Rattle.std.specs.Option.{option_flatten}
use Rattle.std.proofs.lemmas.Bool.{cases_lt}
use Rattle.dg_nor.specs.Device.{Device, WorkedOrStopped}
use Rattle.dg_nor.specs.Fuse.{beneath_of}
use Rattle.dg_nor.specs.Reads.{Looked, ReadStopped}
use Rattle.dg_volume.specs.Sizes.{images}
use Rattle.dg_volume.specs.Stands.{Stands, Mounted, IsNoVolume, kept_at}
use Rattle.dg_volume.specs.Store.{Store}
use Rattle.dg_volume.specs.declared.volume.Volume.{Volume}
use Rattle.dg_volume.specs.declared.volume.MountFault.{MountFault}
use Rattle.dg_volume.specs.declared.volume.MountFault.TheVariants.{Stopped, NotAVolume}
use Rattle.dg_moments.specs.declared.given.Given.{Given}
use Rattle.dg_moments.specs.Looking.{read_of, ReadsBoard, ReadsBoards}
use Rattle.dg_world.proofs.BoardLemmas.{used_at}
use Rattle.dg_world.proofs.CountLemmas.{worked_ran, worked_halts}
use Rattle.dg_world.proofs.FinishLemmas.{ReadTo, read_more}
use Rattle.dg_world.proofs.FormatLemmas.{first_within}

-- ---- one board

both_ways : {b : _} → b ≡ true → b ≡ false → ⊥
both_ways on off = cc

pub reads_stopped : (given : Option Given) (old new : Device) → ReadStopped old new → ReadsBoard given new
reads_stopped given old new stopped awake s stands i lt = absurd (both_ways stopped.halts.stopped awake)

pub reads_no_volume : (given : Option Given) (old new : Device) → IsNoVolume old.image → new.image ≡ old.image → ReadsBoard given new
reads_no_volume given old new none same awake s stands i lt = absurd (none s (subst (λ (c : List ℕ). Stands c s) same stands))

pub reads_volume : (given : Given) (v : Volume) (old new : Device) → ((s : Store) → Stands old.image s → Mounted old.image v s) → new.image ≡ old.image
    → ((i : ℕ) → i < images → read_of (Some given) i ≡ kept_at v i) → ReadsBoard (Some given) new
reads_volume given v old new mounted same kept awake s stands i lt =
    kept i lt ∙ (mounted s (subst (λ (c : List ℕ). Stands c s) same stands)).tells.kept i lt (λ never. never)

-- ---- one board more

-- it was read of the first boards
abbrev pub ReadsFirst : (boards : ℕ) → List (Option Given) → List Device → Type 0
ReadsFirst n given boards = (m : ℕ) (d : Device) → m < n → slice_get boards m ≡ Some d
    → ReadsBoard (option_flatten (slice_get given m)) d

get_set_same : {A : Type 0} (xs : List A) (i : ℕ) (x : A) → i < length xs → slice_get (set xs i x) i ≡ Some x
get_set_same [] i x lt = absurd (omega arith)
get_set_same (y ∷ xs) zero x lt = refl
get_set_same (y ∷ xs) (suc i) x lt = get_set_same xs i x (omega arith)

get_set_other : {A : Type 0} (xs : List A) (i m : ℕ) (x : A) → m < i → slice_get (set xs i x) m ≡ slice_get xs m
get_set_other [] i m x lt = refl
get_set_other (y ∷ xs) zero m x lt = absurd (omega arith)
get_set_other (y ∷ xs) (suc i) zero x lt = refl
get_set_other (y ∷ xs) (suc i) (suc m) x lt = get_set_other xs i m x (omega arith)

get_first : {A : Type 0} (xs ys : List A) (m : ℕ) → m < length xs → slice_get (xs ++ ys) m ≡ slice_get xs m
get_first [] ys m lt = absurd (omega arith)
get_first (x ∷ xs) ys zero lt = refl
get_first (x ∷ xs) ys (suc m) lt = get_first xs ys m (omega arith)

get_last : {A : Type 0} (xs : List A) (x : A) (m : ℕ) → m ≡ length xs → slice_get (xs ++ x ∷ []) m ≡ Some x
get_last [] x zero is = refl
get_last [] x (suc m) is = absurd (omega arith)
get_last (y ∷ xs) x zero is = absurd (omega arith)
get_last (y ∷ xs) x (suc m) is = get_last xs x m (omega arith)

same_some : {A : Type 0} (x y : A) → Some x ≡ Some y → x ≡ y
same_some x y e = cc

pub one_longer : {A : Type 0} (given more : List A) (g : A) (i : ℕ) → more ≡ given ++ g ∷ [] → length given ≡ i → length more ≡ i + 1
one_longer given more g i longer long = omega (arith, ap length longer, length-append given (g ∷ []), long)

pub reads_more : (given more : List (Option Given)) (old new : List Device) (i : ℕ) (g : Option Given) (d : Device) → more ≡ given ++ g ∷ []
    → length given ≡ i → i < length old → new ≡ set old i d → ReadsBoard g d → ReadsFirst i given old → ReadsFirst (i + 1) more new
reads_more given more old new i g d longer long there is reads first m e lt at = elim (cases_lt m i) [
  | inl below ↦
      subst (λ (o : Option (Option Given)). ReadsBoard (option_flatten o) e)
      (sym (ap (λ (xs : List (Option Given)). slice_get xs m) longer ∙ get_first given (g ∷ []) m (omega (arith, below, long))))
      (first m e below (sym (get_set_other old i m d below) ∙ sym (ap (λ (ds : List Device). slice_get ds m) is) ∙ at))
  | inr above ↦
      let here : m ≡ i = omega (arith, above, lt) in
      let board : d ≡ e =
      same_some d e (sym (get_set_same old i d there) ∙ ap (λ (k : ℕ). slice_get (set old i d) k) (sym here)
      ∙ sym (ap (λ (ds : List Device). slice_get ds m) is) ∙ at) in
      subst (λ (o : Option (Option Given)). ReadsBoard (option_flatten o) e)
      (sym (ap (λ (xs : List (Option Given)). slice_get xs m) longer ∙ get_last given g m (omega (arith, here, long))))
      (subst (λ (f : Device). ReadsBoard g f) board reads)
]

get_within : {A : Type 0} (xs : List A) (i : ℕ) (x : A) → slice_get xs i ≡ Some x → i < length xs
get_within [] i x there = absurd (never x there)
  where
    never : {A : Type 0} (x : A) → None ≡ Some x → ⊥
    never x e = cc
get_within (y ∷ xs) zero x there = omega arith
get_within (y ∷ xs) (suc i) x there = let h = get_within xs i x there in omega arith

pub reads_all : (given : List (Option Given)) (boards : List Device) (i : ℕ) → length boards ≤ i → ReadsFirst i given boards → ReadsBoards given boards
reads_all given boards i all first m d at = first m d (omega (arith, get_within boards m d at, all)) at

-- ---- boards that are only read

-- one more board was read
pub board_read : {N : Type 0} (f : N → Device) (n : ℕ) (old new : List Device) (items : List N) (d x e : N) → ReadTo n old (map f items) → n < length items
    → d ≡ get_or items n x → new ≡ map f (set items n e) → WorkedOrStopped 0 (beneath_of (f d)) (beneath_of (f e)) → (f e).image ≡ (f d).image
    → ReadTo (n + 1) old new
board_read {N} f n old new items d x e to there was is kept same =
    subst (λ (ds : List Device). ReadTo (n + 1) old ds) (sym is)
    (read_more n old (map f items) (map f (set items n e)) (f (get_or items n x)) (f e) to (used_at f items n x e there)
    (subst (λ (y : N). WorkedOrStopped 0 (beneath_of (f y)) (beneath_of (f e))) was kept) (same ∙ ap (λ (y : N). (f y).image) was))

-- a mount that failed only read
pub mount_failed : (r : Result Volume MountFault) (e : MountFault) (a b : Device) → r ≡ Err e → (IsErrOf r NotAVolume → Looked a b)
    → (IsErrOf r Stopped → ReadStopped a b) → WorkedOrStopped 0 (beneath_of a) (beneath_of b)
mount_failed r NotAVolume a b is looked stopped = worked_ran (looked is).ran
mount_failed r Stopped a b is looked stopped = worked_halts 0 (stopped is).halts

-- a board that is left out counts as read
pub read_past : (n : ℕ) (old now new : List Device) → ReadTo n old now → new ≡ now → ReadTo (n + 1) old new
read_past n old now new to same = subst (λ (ds : List Device). ReadTo (n + 1) old ds) (sym same) past
  where
    past : ReadTo (n + 1) old now
    past = record { first = first_within n (n + 1) old now to.first (omega arith); images = to.images; none_made = to.none_made }
