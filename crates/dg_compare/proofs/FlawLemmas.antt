-- Pages that are not sound, as the sets of them that are seen show.
use Rattle.std.proofs.Common.{◌≡◌, ◌≢◌, ℕ, ◌+◌, ◌<◌, ◌≤◌, Bool, true, false, List, [], length, get_or, Option, Some, None, IfSome, refl, sym, ap, ◌∙◌, subst, arith, eqb-true, eq-eqb}
use Rattle.std.specs.Prelude.{◌==◌, ◌&&◌, not, nat_le, nat_lt, MatchOption, IsSomeAnd}
use Rattle.std.specs.FinSet as set
use Rattle.dg_words.specs.Lists.{tabulate}
use Rattle.dg_words.proofs.ListLemmas.{length-tabulate}
use Rattle.dg_base.specs.Crc.{crc_of}
use Rattle.dg_bits.specs.Sets.{Numbers, IsLeast}
use Rattle.dg_bits.proofs.SetLaws.{contains-none}
use Rattle.dg_object.specs.Descriptor.{Details, IsDescriptor, Describes, crc_in}
use Rattle.dg_slot.specs.Kept.{Held, KeepsImage, HasDescriptor}
use Rattle.dg_slot.specs.Layout.{page_sector, program_sector}
use Rattle.dg_slot.specs.Pages.{page_in, program}
use Rattle.dg_volume.specs.Store.{App}
use Rattle.dg_volume.specs.Stands.{HoldsApp}
use Rattle.dg_volume.specs.Consistent.{FitFirst, IsSoundSoFar}
use Rattle.dg_boot.proofs.DescriptorLemmas.{first_of}
use Rattle.dg_inspect.specs.Pages.{is_unsound, ShowsPages, ShowsKept}
use Rattle.dg_inspect.specs.Seen.{ShowsApp, ShowsProgram}
use Rattle.dg_inspect.proofs.PageLemmas.{lt_true, le_true, lt_of, le_of}
use Rattle.dg_inspect.specs.declared.seen.ImageSeen.{ImageSeen}
use Rattle.dg_inspect.specs.declared.seen.PagesSeen.{PagesSeen}
use Rattle.dg_inspect.specs.declared.seen.ProgramSeen.{ProgramSeen}
use Rattle.dg_compare.specs.Sound.{IsFirstUnfit, IsSoundProgram}

-- ---- one page

not_bad : (a b x : Bool) → (a && b) && not x ≡ false → a ≡ true → b ≡ true → x ≡ true
not_bad true true true h e f = refl
not_bad true true false h e f = absurd cc
not_bad true false x h e f = absurd cc
not_bad false b x h e f = absurd cc

bad_parts : (a b x : Bool) → (a && b) && not x ≡ true → (a ≡ true) × (b ≡ true) × (x ≡ false)
bad_parts true true false h = (refl, refl, refl)
bad_parts true true true h = absurd cc
bad_parts true false x h = absurd cc
bad_parts false b x h = absurd cc

-- a data page that is not in the set of the unsound ones has its CRC
fits_if : (ps : List (List ℕ)) (p : ℕ) → is_unsound ps p ≡ false → 1 ≤ p → p < length ps → crc_of (get_or ps p []) ≡ crc_in (get_or ps 0 []) p
fits_if ps p calm some within = eqb-true (crc_of (get_or ps p [])) (crc_in (get_or ps 0 []) p) (not_bad (nat_le 1 p) (nat_lt p (length ps)) _ calm (le_true 1 p some) (lt_true p (length ps) within))

calm_unless : (b : Bool) → (b ≡ true → ⊥) → b ≡ false
calm_unless true never = absurd (never refl)
calm_unless false never = refl

-- the set of the unsound pages is empty, or its least is the first that does not fit
pub unfit_by : (o : Option ℕ) (s : Numbers) (ps : List (List ℕ)) → MatchOption o (s ≡ set.empty) (IsLeast s) → ((p : ℕ) → set.contains s p ≡ is_unsound ps p) → MatchOption o (FitFirst ps) (IsFirstUnfit ps)
unfit_by None s ps empty same = λ p some within. fits_if ps p (sym (same p) ∙ ap (λ (t : Numbers). set.contains t p) empty ∙ contains-none p) some within
unfit_by (Some q) s ps least same =
    let parts = bad_parts (nat_le 1 q) (nat_lt q (length ps)) _ (sym (same q) ∙ least.member) in
    let other : (crc_of (get_or ps q []) == crc_in (get_or ps 0 []) q) ≡ false = parts.2 in
    record {
      some = le_of 1 q parts.0;
      within = lt_of q (length ps) parts.1;
      differs = λ e. let yes : (crc_of (get_or ps q []) == crc_in (get_or ps 0 []) q) ≡ true = eq-eqb _ _ e in absurd cc;
      before = λ r some low. fits_if ps r (calm_unless (is_unsound ps r) (λ bad. let least_one : q ≤ r = least.no_smaller r (same r ∙ bad) in absurd (omega arith))) some (let high : q < length ps = lt_of q (length ps) parts.1 in omega arith);
    }

-- ---- what is kept

-- the pages that are kept are sound where the data pages fit page 0
pub kept_sound : (c : List ℕ) (i : ℕ) (h : Held) → KeepsImage c i h → FitFirst h.complete → IsSoundSoFar i h
kept_sound c i h keeps fit =
    record {
      first = λ some. subst (λ (page : List ℕ). HasDescriptor page i h.version h.pages h.crc)
          (sym (ap (λ (ps : List (List ℕ)). get_or ps 0 []) keeps.stored ∙ first_of (λ p. page_in c (page_sector i p)) (length h.complete) some)) (keeps.first some);
      rest = fit;
    }

-- no page is there
pub none_fit : (ps : List (List ℕ)) → length ps ≡ 0 → FitFirst ps
none_fit ps e p some within = absurd (omega arith)

pub flaw_none : (c : List ℕ) (i : ℕ) (h : Option Held) (o : Option ImageSeen) → o ≡ None → IfSome h (KeepsImage c i) → ShowsKept h o → IfSome h (IsSoundSoFar i)
flaw_none c i None o e keeps shown = tt
flaw_none c i (Some h) None e keeps shown = absurd shown
flaw_none c i (Some h) (Some x) e keeps shown = absurd cc

pub flaw_empty : (c : List ℕ) (i : ℕ) (h : Option Held) (o : Option ImageSeen) (x : ImageSeen) → o ≡ Some x → x.complete ≡ None → IfSome h (KeepsImage c i) → ShowsKept h o → IfSome h (IsSoundSoFar i)
flaw_empty c i None o x e f keeps shown = tt
flaw_empty c i (Some h) None x e f keeps shown = absurd shown
flaw_empty c i (Some h) (Some y) x e f keeps shown =
    let same : y ≡ x = cc in
    let none : y.complete ≡ None = ap (λ (z : ImageSeen). z.complete) same ∙ f in
    let empty : length h.complete ≡ 0 = rw none at shown.complete in
    kept_sound c i h keeps (none_fit h.complete empty)

pub flaw_pages : (c : List ℕ) (i : ℕ) (h : Option Held) (o : Option ImageSeen) (x : ImageSeen) (p : PagesSeen) (r : Option ℕ) → o ≡ Some x → x.complete ≡ Some p → IfSome h (KeepsImage c i) → ShowsKept h o
    → ((ps : List (List ℕ)) → ShowsPages ps p → MatchOption r (FitFirst ps) (IsFirstUnfit ps)) → MatchOption r (IfSome h (IsSoundSoFar i)) (λ q. IsSomeAnd h (λ g. IsFirstUnfit g.complete q))
flaw_pages c i None o x p r e f keeps shown each = let no : None ≡ Some x = sym shown ∙ e in absurd cc
flaw_pages c i (Some h) None x p r e f keeps shown each = absurd shown
flaw_pages c i (Some h) (Some y) x p r e f keeps shown each =
    let same : y ≡ x = cc in
    let there : y.complete ≡ Some p = ap (λ (z : ImageSeen). z.complete) same ∙ f in
    let seen = rw there at shown.complete in
    by r (each h.complete seen.1)
  where
    by : (r : Option ℕ) → MatchOption r (FitFirst h.complete) (IsFirstUnfit h.complete) → MatchOption r (IfSome (Some h) (IsSoundSoFar i)) (λ q. IsSomeAnd (Some h) (λ g. IsFirstUnfit g.complete q))
    by None fit = kept_sound c i h keeps fit
    by (Some q) unfit = unfit

-- ---- program memory

pub program_sound : (c : List ℕ) (app : App) → HoldsApp c app → FitFirst app.pages → IsSoundProgram app
program_sound c app holds fit =
    let d = holds.described.0 in
    let is = holds.described.1 in
    let pages : app.pages ≡ program c d.pages = holds.described.4 in
    let count : length app.pages ≡ d.pages = ap length pages ∙ length-tabulate d.pages (λ p. page_in c (program_sector p)) in
    let some : 0 < d.pages = let e = is.head.range.pages in omega arith in
    record {
      described = (
        d,
        subst (λ (page : List ℕ). IsDescriptor page d) (sym (ap (λ (ps : List (List ℕ)). get_or ps 0 []) pages ∙ first_of (λ p. page_in c (program_sector p)) d.pages some)) is,
        holds.described.2,
        holds.described.3,
        sym count,
      );
      rest = fit;
    }

pub program_flaw_none : (c : List ℕ) (a : Option App) (o : Option ProgramSeen) → o ≡ None → IfSome a (HoldsApp c) → ShowsProgram a o → IfSome a IsSoundProgram
program_flaw_none c None o e holds shown = tt
program_flaw_none c (Some app) None e holds shown = absurd shown
program_flaw_none c (Some app) (Some x) e holds shown = absurd cc

pub program_flaw_pages : (c : List ℕ) (a : Option App) (o : Option ProgramSeen) (x : ProgramSeen) (r : Option ℕ) → o ≡ Some x → IfSome a (HoldsApp c) → ShowsProgram a o
    → ((ps : List (List ℕ)) → ShowsPages ps x.pages → MatchOption r (FitFirst ps) (IsFirstUnfit ps)) → MatchOption r (IfSome a IsSoundProgram) (λ q. IsSomeAnd a (λ app. IsFirstUnfit app.pages q))
program_flaw_pages c None o x r e holds shown each = let no : None ≡ Some x = sym shown ∙ e in absurd cc
program_flaw_pages c (Some app) None x r e holds shown each = absurd shown
program_flaw_pages c (Some app) (Some y) x r e holds shown each =
    let same : y ≡ x = cc in
    let seen : ShowsApp app y = shown in
    by r (each app.pages (subst (λ (z : ProgramSeen). ShowsPages app.pages z.pages) same seen.pages))
  where
    by : (r : Option ℕ) → MatchOption r (FitFirst app.pages) (IsFirstUnfit app.pages) → MatchOption r (IfSome (Some app) IsSoundProgram) (λ q. IsSomeAnd (Some app) (λ p. IsFirstUnfit p.pages q))
    by None fit = program_sound c app holds fit
    by (Some q) unfit = unfit

-- what is found is not some page
pub none_by : {A : Type 0} (r : Option A) (P : Type 0) (Q : A → Type 0) → ((p : A) → r ≡ Some p → ⊥) → MatchOption r P Q → P
none_by None P Q never found = found
none_by (Some p) P Q never found = absurd (never p refl)

pub with_more : {A : Type 0} (r : Option A) (P Q : Type 0) (R : A → Type 0) → P → MatchOption r Q R → MatchOption r (P × Q) R
with_more None P Q R p found = (p, found)
with_more (Some x) P Q R p found = found
