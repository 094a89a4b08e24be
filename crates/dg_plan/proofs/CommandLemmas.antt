-- What commands leave of a chip, byte by byte, and lists of commands that grow.
use Rattle.std.proofs.Common.{◌≡◌, ℕ, zero, suc, ◌+◌, ◌-◌, ◌<◌, ◌≤◌, ◌⊎◌, ⊎_elim, Bool, true, false, List, [], ◌∷◌, ◌++◌, length, get_or, take, refl, sym, ap, subst, ◌∙◌, inl, inr, arith}
use Rattle.std.specs.Prelude.{◌==◌, bit_and}
use Rattle.std.proofs.lemmas.List.{take_more}
use Rattle.std.proofs.lemmas.Bool.{both_ways, cases_lt}
use Rattle.std.proofs.lemmas.Nat.{and_le_l}
use Rattle.dg_words.specs.Cells.{part}
use Rattle.dg_words.proofs.CellLemmas.{length-part, length-overwritten, get_or-part, get_or-overwritten_inside, get_or-overwritten_outside}
use Rattle.dg_nor.specs.Sizes.{sector_size, chip_size}
use Rattle.dg_nor.specs.Chip.{blank, programmed, IsChip}
use Rattle.dg_nor.proofs.ChipLemmas.{length-blank, get_or-blank, length-programmed, get_or-programmed, get_or-programmed_outside}
use Rattle.dg_plan.specs.declared.command.Command.{Command}
use Rattle.dg_plan.specs.Commands.{erase_kind, program_kind, done_by, command_done, carried_out, CommandFits, CommandsFit, laid_by}

-- ---- the kinds of commands

-- what fits, by its kind
abbrev pub FitsBy : (erases programs : Bool) → (chip : List ℕ) (used : ℕ) → Command → List ℕ → Type 0
FitsBy true programs chip used c image = c.count ≡ sector_size
FitsBy false true chip used c image = c.from + c.count ≤ used
FitsBy false false chip used c image = (c.from + c.count ≤ chip_size) × (part image c.from c.count ≡ part chip c.from c.count)

module _ (chip : List ℕ) (used : ℕ) (c : Command) (image : List ℕ) where
  kind_of : (e p : Bool) → (e ≡ true → c.count ≡ sector_size) → (e ≡ false → p ≡ true → c.from + c.count ≤ used)
      → (e ≡ false → p ≡ false → (c.from + c.count ≤ chip_size) × (part image c.from c.count ≡ part chip c.from c.count)) → FitsBy e p chip used c image
  kind_of true p x y z = x refl
  kind_of false true x y z = y refl refl
  kind_of false false x y z = z refl refl

  pub by_kind : CommandFits chip used c image → FitsBy (c.kind == erase_kind) (c.kind == program_kind) chip used c image
  by_kind fits = kind_of _ _ fits.erases fits.programs fits.copies

  erases_by : (e p : Bool) → FitsBy e p chip used c image → e ≡ true → c.count ≡ sector_size
  erases_by true p f h = f
  erases_by false p f h = absurd (both_ways false refl h)

  programs_by : (e p : Bool) → FitsBy e p chip used c image → e ≡ false → p ≡ true → c.from + c.count ≤ used
  programs_by true p f h i = absurd (both_ways true h refl)
  programs_by false true f h i = f
  programs_by false false f h i = absurd (both_ways false refl i)

  copies_by : (e p : Bool) → FitsBy e p chip used c image → e ≡ false → p ≡ false → (c.from + c.count ≤ chip_size) × (part image c.from c.count ≡ part chip c.from c.count)
  copies_by true p f h i = absurd (both_ways true h refl)
  copies_by false true f h i = absurd (both_ways true i refl)
  copies_by false false f h i = f

  pub fits_by : c.at + c.count ≤ chip_size → FitsBy (c.kind == erase_kind) (c.kind == program_kind) chip used c image → CommandFits chip used c image
  fits_by place f = record {
    place = place;
    erases = erases_by _ _ f;
    programs = programs_by _ _ f;
    copies = copies_by _ _ f;
  }

-- ---- one command

module _ (chip bytes : List ℕ) (used : ℕ) (c : Command) (image : List ℕ) (size : length image ≡ chip_size) (room : used ≤ length bytes) (place : c.at + c.count ≤ chip_size) where
  done_length : (e p : Bool) → FitsBy e p chip used c image → length (done_by e p bytes c image) ≡ length image
  done_length true p fits = length-overwritten image c.at (blank sector_size) (let n = length-blank sector_size in omega (arith, n, fits, size, place))
  done_length false true fits = length-programmed image c.at (part bytes c.from c.count) (let n = length-part bytes c.from c.count (omega (arith, fits, room)) in omega (arith, n, size, place))
  done_length false false fits = length-programmed image c.at (part image c.from c.count) (let n = length-part image c.from c.count (omega (arith, fits.0, size)) in omega (arith, n, size, place))

  inside_by : (e p : Bool) → FitsBy e p chip used c image → (k : ℕ) → k < c.count → get_or (done_by e p bytes c image) (c.at + k) 0 ≡ laid_by e p chip bytes c k (get_or image (c.at + k) 0)
  inside_by true p fits k l =
      let n = length-blank sector_size in
      get_or-overwritten_inside image c.at (blank sector_size) k 0 (omega (arith, n, fits, size, place)) (omega (arith, n, fits, l))
      ∙ get_or-blank sector_size k 0 (omega (arith, fits, l))
  inside_by false true fits k l =
      let n = length-part bytes c.from c.count (omega (arith, fits, room)) in
      get_or-programmed image c.at (part bytes c.from c.count) k (omega (arith, n, size, place)) (omega (arith, n, l))
      ∙ ap (bit_and (get_or image (c.at + k) 0)) (get_or-part bytes c.from c.count k 0 l)
  inside_by false false fits k l =
      let n = length-part image c.from c.count (omega (arith, fits.0, size)) in
      get_or-programmed image c.at (part image c.from c.count) k (omega (arith, n, size, place)) (omega (arith, n, l))
      ∙ ap (bit_and (get_or image (c.at + k) 0)) (ap (λ xs. get_or xs k 0) fits.1 ∙ get_or-part chip c.from c.count k 0 l)

  outside_by : (e p : Bool) → FitsBy e p chip used c image → (i : ℕ) → (i < c.at) ⊎ (c.at + c.count ≤ i) → get_or (done_by e p bytes c image) i 0 ≡ get_or image i 0
  outside_by true p fits i (inl l) = let n = length-blank sector_size in get_or-overwritten_outside image c.at (blank sector_size) i 0 (omega (arith, n, fits, size, place)) (inl l)
  outside_by true p fits i (inr l) = let n = length-blank sector_size in get_or-overwritten_outside image c.at (blank sector_size) i 0 (omega (arith, n, fits, size, place)) (inr (omega (arith, n, fits, l)))
  outside_by false true fits i (inl l) = let n = length-part bytes c.from c.count (omega (arith, fits, room)) in get_or-programmed_outside image c.at (part bytes c.from c.count) i (omega (arith, n, size, place)) (inl l)
  outside_by false true fits i (inr l) = let n = length-part bytes c.from c.count (omega (arith, fits, room)) in get_or-programmed_outside image c.at (part bytes c.from c.count) i (omega (arith, n, size, place)) (inr (omega (arith, n, l)))
  outside_by false false fits i (inl l) = let n = length-part image c.from c.count (omega (arith, fits.0, size)) in get_or-programmed_outside image c.at (part image c.from c.count) i (omega (arith, n, size, place)) (inl l)
  outside_by false false fits i (inr l) = let n = length-part image c.from c.count (omega (arith, fits.0, size)) in get_or-programmed_outside image c.at (part image c.from c.count) i (omega (arith, n, size, place)) (inr (omega (arith, n, l)))

-- a command keeps the size
pub length-command_done : (chip bytes : List ℕ) (used : ℕ) (c : Command) (image : List ℕ) → length image ≡ chip_size → used ≤ length bytes → CommandFits chip used c image → length (command_done bytes c image) ≡ chip_size
length-command_done chip bytes used c image size room fits = done_length chip bytes used c image size room fits.place _ _ (by_kind chip used c image fits) ∙ size

-- the bytes of its range
pub laid_inside : (chip bytes : List ℕ) (used : ℕ) (c : Command) (image : List ℕ) → length image ≡ chip_size → used ≤ length bytes → CommandFits chip used c image → (k : ℕ) → k < c.count
    → get_or (command_done bytes c image) (c.at + k) 0 ≡ laid_by (c.kind == erase_kind) (c.kind == program_kind) chip bytes c k (get_or image (c.at + k) 0)
laid_inside chip bytes used c image size room fits = inside_by chip bytes used c image size room fits.place _ _ (by_kind chip used c image fits)

-- all others are unchanged
pub laid_outside : (chip bytes : List ℕ) (used : ℕ) (c : Command) (image : List ℕ) → length image ≡ chip_size → used ≤ length bytes → CommandFits chip used c image → (i : ℕ) → (i < c.at) ⊎ (c.at + c.count ≤ i)
    → get_or (command_done bytes c image) i 0 ≡ get_or image i 0
laid_outside chip bytes used c image size room fits = outside_by chip bytes used c image size room fits.place _ _ (by_kind chip used c image fits)

laid_byte : (e p : Bool) (chip bytes : List ℕ) (c : Command) (k old : ℕ) → old < 256 → laid_by e p chip bytes c k old < 256
laid_byte true p chip bytes c k old l = omega arith
laid_byte false true chip bytes c k old l = let h = and_le_l old (get_or bytes (c.from + k) 0) in omega (arith, h, l)
laid_byte false false chip bytes c k old l = let h = and_le_l old (get_or chip (c.from + k) 0) in omega (arith, h, l)

-- what a command leaves is a chip
pub IsChip-command_done : (chip bytes : List ℕ) (used : ℕ) (c : Command) (image : List ℕ) → used ≤ length bytes → CommandFits chip used c image → IsChip image → IsChip (command_done bytes c image)
IsChip-command_done chip bytes used c image room fits is =
    let outside = laid_outside chip bytes used c image is.cells room fits in
    let stays : (i : ℕ) → (i < c.at) ⊎ (c.at + c.count ≤ i) → get_or (command_done bytes c image) i 0 < 256 = λ i o. subst (λ (x : ℕ). x < 256) (sym (outside i o)) (is.bytes i) in
    let changes : (i : ℕ) → c.at ≤ i → i < c.at + c.count → get_or (command_done bytes c image) i 0 < 256 = λ i low high.
    let e : c.at + (i - c.at) ≡ i = omega (arith, low) in
    subst (λ (j : ℕ). get_or (command_done bytes c image) j 0 < 256) e
    (subst (λ (x : ℕ). x < 256) (sym (laid_inside chip bytes used c image is.cells room fits (i - c.at) (omega (arith, low, high))))
    (laid_byte _ _ chip bytes c (i - c.at) (get_or image (c.at + (i - c.at)) 0) (is.bytes (c.at + (i - c.at))))) in
    record {
      cells = length-command_done chip bytes used c image is.cells room fits;
      bytes = λ i. ⊎_elim (λ low. stays i (inl low)) (λ low. ⊎_elim (λ high. changes i low high) (λ high. stays i (inr high)) (cases_lt i (c.at + c.count))) (cases_lt i c.at);
    }

-- ---- lists of commands

-- each of the commands fits, once those before it are carried out
unfoldable pub FitEach : (chip bytes : List ℕ) (used : ℕ) → List Command → List ℕ → Type 0
FitEach chip bytes used [] image = Unit {0}
FitEach chip bytes used (c ∷ cs) image = CommandFits chip used c image × FitEach chip bytes used cs (command_done bytes c image)

pub each_of : (chip bytes : List ℕ) (used : ℕ) (cs : List Command) (image : List ℕ) → CommandsFit chip bytes used cs image → FitEach chip bytes used cs image
unfolding carried_out FitEach
each_of chip bytes used [] image fits = tt
each_of chip bytes used (c ∷ cs) image fits = (fits 0 (omega arith), each_of chip bytes used cs (command_done bytes c image) (λ k l. fits (suc k) (omega (arith, l))))

pub all_of : (chip bytes : List ℕ) (used : ℕ) (cs : List Command) (image : List ℕ) → FitEach chip bytes used cs image → CommandsFit chip bytes used cs image
unfolding carried_out FitEach
all_of chip bytes used [] image fits k l = absurd (omega (arith, l))
all_of chip bytes used (c ∷ cs) image fits zero l = fits.0
all_of chip bytes used (c ∷ cs) image fits (suc k) l = all_of chip bytes used cs (command_done bytes c image) fits.1 k (omega (arith, l))

-- one more command
pub carried_more : (bytes : List ℕ) (cs : List Command) (c : Command) (image : List ℕ) → carried_out bytes (cs ++ c ∷ []) image ≡ command_done bytes c (carried_out bytes cs image)
unfolding carried_out
carried_more bytes [] c image = refl
carried_more bytes (x ∷ cs) c image = carried_more bytes cs c (command_done bytes x image)

pub fit_more : (chip bytes : List ℕ) (used : ℕ) (cs : List Command) (c : Command) (image : List ℕ) → FitEach chip bytes used cs image → CommandFits chip used c (carried_out bytes cs image) → FitEach chip bytes used (cs ++ c ∷ []) image
unfolding carried_out FitEach
fit_more chip bytes used [] c image fits next = (next, tt)
fit_more chip bytes used (x ∷ cs) c image fits next = (fits.0, fit_more chip bytes used cs c (command_done bytes x image) fits.1 next)

-- the command with a number fits, once those before it are carried out
pub fits_at : (chip bytes : List ℕ) (used : ℕ) (cs : List Command) (image : List ℕ) (n k : ℕ) (d : Command) → FitEach chip bytes used (take n cs) image → k < n → k < length cs → CommandFits chip used (get_or cs k d) (carried_out bytes (take k cs) image)
unfolding carried_out FitEach
fits_at chip bytes used [] image n k d fits l m = absurd (omega (arith, m))
fits_at chip bytes used (x ∷ cs) image zero k d fits l m = absurd (omega (arith, l))
fits_at chip bytes used (x ∷ cs) image (suc n) zero d fits l m = fits.0
fits_at chip bytes used (x ∷ cs) image (suc n) (suc k) d fits l m = fits_at chip bytes used cs (command_done bytes x image) n k d fits.1 (omega (arith, l)) (omega (arith, m))

-- the first of them fit
pub fit_front : (chip bytes : List ℕ) (used : ℕ) (cs : List Command) (image : List ℕ) (n k : ℕ) → FitEach chip bytes used (take n cs) image → k ≤ n → FitEach chip bytes used (take k cs) image
unfolding FitEach
fit_front chip bytes used cs image n zero fits l = tt
fit_front chip bytes used [] image n (suc k) fits l = tt
fit_front chip bytes used (x ∷ cs) image zero (suc k) fits l = absurd (omega (arith, l))
fit_front chip bytes used (x ∷ cs) image (suc n) (suc k) fits l = (fits.0, fit_front chip bytes used cs (command_done bytes x image) n k fits.1 (omega (arith, l)))

-- the next command of a list
pub carried_next : (bytes : List ℕ) (cs : List Command) (image : List ℕ) (k : ℕ) (d : Command) → k < length cs → carried_out bytes (take (k + 1) cs) image ≡ command_done bytes (get_or cs k d) (carried_out bytes (take k cs) image)
carried_next bytes cs image k d l = ap (λ (xs : List Command). carried_out bytes xs image) (take_more cs k d l) ∙ carried_more bytes (take k cs) (get_or cs k d) image

-- the chip keeps its size
pub length-carried_out : (chip bytes : List ℕ) (used : ℕ) (cs : List Command) (image : List ℕ) → length image ≡ chip_size → used ≤ length bytes → FitEach chip bytes used cs image → length (carried_out bytes cs image) ≡ chip_size
unfolding carried_out FitEach
length-carried_out chip bytes used [] image size room fits = size
length-carried_out chip bytes used (x ∷ cs) image size room fits =
    length-carried_out chip bytes used cs (command_done bytes x image) (length-command_done chip bytes used x image size room fits.0) room fits.1

-- ---- data that grow after what is used

-- the used bytes are the same
abbrev pub SameUsed : (bytes more : List ℕ) (used : ℕ) → Type 0
SameUsed bytes more used = (at n : ℕ) → at + n ≤ used → part more at n ≡ part bytes at n

done_same : (e p : Bool) (chip bytes more : List ℕ) (used : ℕ) (c : Command) (image : List ℕ) → SameUsed bytes more used → FitsBy e p chip used c image → done_by e p more c image ≡ done_by e p bytes c image
done_same true p chip bytes more used c image same fits = refl
done_same false true chip bytes more used c image same fits = ap (programmed image c.at) (same c.from c.count fits)
done_same false false chip bytes more used c image same fits = refl

pub carried_same : (chip bytes more : List ℕ) (used : ℕ) (cs : List Command) (image : List ℕ) → SameUsed bytes more used → FitEach chip bytes used cs image → carried_out more cs image ≡ carried_out bytes cs image
unfolding carried_out FitEach
carried_same chip bytes more used [] image same fits = refl
carried_same chip bytes more used (c ∷ cs) image same fits =
    ap (carried_out more cs) (done_same _ _ chip bytes more used c image same (by_kind chip used c image fits.0)) ∙ carried_same chip bytes more used cs (command_done bytes c image) same fits.1

fits_more_by : (e p : Bool) (chip : List ℕ) (used all : ℕ) (c : Command) (image : List ℕ) → used ≤ all → FitsBy e p chip used c image → FitsBy e p chip all c image
fits_more_by true p chip used all c image l fits = fits
fits_more_by false true chip used all c image l fits = omega (arith, l, fits)
fits_more_by false false chip used all c image l fits = fits

pub fit_same : (chip bytes more : List ℕ) (used all : ℕ) (cs : List Command) (image : List ℕ) → SameUsed bytes more used → used ≤ all → FitEach chip bytes used cs image → FitEach chip more all cs image
unfolding FitEach
fit_same chip bytes more used all [] image same l fits = tt
fit_same chip bytes more used all (c ∷ cs) image same l fits =
    let e = done_same _ _ chip bytes more used c image same (by_kind chip used c image fits.0) in
    let rest = fit_same chip bytes more used all cs (command_done bytes c image) same l fits.1 in
    (fits_by chip all c image fits.0.place (fits_more_by _ _ chip used all c image l (by_kind chip used c image fits.0)), subst (FitEach chip more all cs) (sym e) rest)
