-- What two chips keep beside each other, as what is seen of them shows.
use Rattle.std.proofs.Common.{◌≡◌, ◌≢◌, ℕ, zero, suc, ◌+◌, ◌<◌, ◌≤◌, min, Bool, true, false, List, [], ◌∷◌, length, get_or, Option, Some, None, IfSome, refl, sym, ap, ◌∙◌, subst, arith, eqb-true, eq-eqb}
use Rattle.std.specs.Prelude.{◌==◌, ◌&&◌, ◌||◌, ◌↔◌, not, nat_le, nat_lt, IsSomeAnd, IsTrue}
use Rattle.std.proofs.lemmas.List.{same_lists}
use Rattle.dg_words.specs.Lists.{tabulate}
use Rattle.dg_words.proofs.ListLemmas.{length-tabulate, get_or-tabulate}
use Rattle.dg_object.specs.Descriptor.{Details}
use Rattle.dg_object.specs.Records.{details_of}
use Rattle.dg_object.specs.Tested.{fields_in}
use Rattle.dg_object.proofs.TestedLemmas.{fields_read}
use Rattle.dg_slot.specs.Kept.{Held, KeepsImage}
use Rattle.dg_slot.specs.Layout.{page_sector, program_sector, most_pages}
use Rattle.dg_volume.specs.Start.{complete_pages}
use Rattle.dg_slot.specs.Pages.{page_in, program}
use Rattle.dg_boot.proofs.DescriptorLemmas.{first_of}
use Rattle.dg_volume.specs.Store.{App}
use Rattle.dg_volume.specs.Stands.{HoldsApp}
use Rattle.dg_inspect.specs.Pages.{pages_from, said_in, ShowsKept, ShowsHeld}
use Rattle.dg_inspect.specs.Seen.{ShowsApp, ShowsProgram, ShowsStore}
use Rattle.dg_inspect.specs.declared.seen.VolumeSeen.{VolumeSeen}
use Rattle.dg_control.specs.declared.snapshot.Order.{Order}
use Rattle.dg_compare.specs.declared.results.Side.{Side}
use Rattle.dg_inspect.proofs.ImageLemmas.{kept_from, program_from}
use Rattle.dg_inspect.specs.declared.seen.ImageSeen.{ImageSeen}
use Rattle.dg_inspect.specs.declared.seen.ProgramSeen.{ProgramSeen}
use Rattle.std.specs.List.{All}
use Rattle.dg_volume.specs.Sizes.{images}
use Rattle.dg_volume.specs.Store.{Store}
use Rattle.dg_compare.specs.Alike.{keeps_more, two_profiles, PagesShared, Shares, KeepOneVersion, SetToOne, app_pages, ComparesImage, ComparesProgram, ComparesOrder, AreAlike, larger, waives_order}
use Rattle.dg_compare.specs.declared.results.ImageCompared.{ImageCompared}
use Rattle.dg_compare.specs.declared.results.OrderCompared.{OrderCompared}
use Rattle.dg_compare.specs.declared.results.ProgramCompared.{ProgramCompared}
use Rattle.dg_compare.specs.declared.results.SharedPages.{SharedPages}
use Rattle.dg_compare.specs.declared.results.SharedPages.TheVariants.{Nothing, Equal, Differ}

-- ---- what is seen is of what is kept

pub shown_none : (a : Option Held) (o : Option ImageSeen) → o ≡ None → ShowsKept a o → a ≡ None
shown_none None o e shown = refl
shown_none (Some h) None e shown = absurd shown
shown_none (Some h) (Some x) e shown = absurd cc

pub shown_some : (a : Option Held) (o : Option ImageSeen) (x : ImageSeen) → o ≡ Some x → ShowsKept a o → (h : Held) × (a ≡ Some h) × ShowsHeld h x
shown_some None o x e shown = let no : None ≡ Some x = sym shown ∙ e in absurd cc
shown_some (Some h) None x e shown = absurd shown
shown_some (Some h) (Some y) x e shown = let same : y ≡ x = cc in (h, refl, subst (ShowsHeld h) same shown)

pub set_none : (a : Option App) (o : Option ProgramSeen) → o ≡ None → ShowsProgram a o → a ≡ None
set_none None o e shown = refl
set_none (Some h) None e shown = absurd shown
set_none (Some h) (Some x) e shown = absurd cc

pub set_some : (a : Option App) (o : Option ProgramSeen) (x : ProgramSeen) → o ≡ Some x → ShowsProgram a o → (app : App) × (a ≡ Some app) × ShowsApp app x
set_some None o x e shown = let no : None ≡ Some x = sym shown ∙ e in absurd cc
set_some (Some h) None x e shown = absurd shown
set_some (Some h) (Some y) x e shown = let same : y ≡ x = cc in (h, refl, subst (ShowsApp h) same shown)

-- ---- which keeps more

pub more_none : (a b : Option Held) → a ≡ None → false ≡ keeps_more a b
more_none a b e = sym (ap (λ o. keeps_more o b) e)

pub more_alone : (a b : Option Held) (h : Held) (x : ImageSeen) → a ≡ Some h → b ≡ None → ShowsHeld h x → nat_le 1 x.done ≡ keeps_more a b
more_alone a b h x e f shown = ap (nat_le 1) shown.done ∙ sym (ap (λ o. keeps_more o b) e ∙ ap (λ o. keeps_more (Some h) o) f)

pub more_both : (a b : Option Held) (h g : Held) (x y : ImageSeen) → a ≡ Some h → b ≡ Some g → ShowsHeld h x → ShowsHeld g y
    → (nat_le 1 x.done && (nat_lt y.version x.version || ((y.version == x.version) && nat_lt y.done x.done))) ≡ keeps_more a b
more_both a b h g x y e f shown other =
    ap (λ n. nat_le 1 n && (nat_lt y.version x.version || ((y.version == x.version) && nat_lt y.done n))) shown.done
    ∙ ap (λ n. nat_le 1 (length h.complete) && (nat_lt y.version n || ((y.version == n) && nat_lt y.done (length h.complete)))) shown.version
    ∙ ap (λ n. nat_le 1 (length h.complete) && (nat_lt n h.version || ((n == h.version) && nat_lt y.done (length h.complete)))) other.version
    ∙ ap (λ n. nat_le 1 (length h.complete) && (nat_lt g.version h.version || ((g.version == h.version) && nat_lt n (length h.complete)))) other.done
    ∙ sym (ap (λ o. keeps_more o b) e ∙ ap (λ o. keeps_more (Some h) o) f)

pub profiles_none : (a b : Option Held) → a ≡ None → false ≡ two_profiles a b
profiles_none a b e = sym (ap (λ o. two_profiles o b) e)

pub profiles_alone : (a b : Option Held) (h : Held) → a ≡ Some h → b ≡ None → false ≡ two_profiles a b
profiles_alone a b h e f = sym (ap (λ o. two_profiles o b) e ∙ ap (λ o. two_profiles (Some h) o) f)

pub profiles_both : (a b : Option Held) (h g : Held) (x y : ImageSeen) → a ≡ Some h → b ≡ Some g → ShowsHeld h x → ShowsHeld g y
    → ((x.version == y.version) && not ((x.pages == y.pages) && (x.crc == y.crc))) ≡ two_profiles a b
profiles_both a b h g x y e f shown other =
    ap (λ n. (n == y.version) && not ((x.pages == y.pages) && (x.crc == y.crc))) shown.version
    ∙ ap (λ n. (h.version == n) && not ((x.pages == y.pages) && (x.crc == y.crc))) other.version
    ∙ ap (λ n. (h.version == g.version) && not ((n == y.pages) && (x.crc == y.crc))) shown.pages
    ∙ ap (λ n. (h.version == g.version) && not ((h.pages == n) && (x.crc == y.crc))) other.pages
    ∙ ap (λ n. (h.version == g.version) && not ((h.pages == g.pages) && (n == y.crc))) shown.crc
    ∙ ap (λ n. (h.version == g.version) && not ((h.pages == g.pages) && (h.crc == n))) other.crc
    ∙ sym (ap (λ o. two_profiles o b) e ∙ ap (λ o. two_profiles (Some h) o) f)

-- ---- pages that both have

-- where they have no version together
pub shares_nothing : (One : Type 0) (xs ys : List (List ℕ)) → (One → ⊥) → Shares One xs ys Nothing
shares_nothing One xs ys apart = record { pages = λ one. absurd (apart one); nothing = λ _. refl }

pub shares_pages : (One : Type 0) (xs ys : List (List ℕ)) (r : SharedPages) → One → PagesShared xs ys r → Shares One xs ys r
shares_pages One xs ys r one shared = record { pages = λ _. shared; nothing = λ no. absurd (no one) }

table_at : (c : List ℕ) (k n p : ℕ) → p < n → get_or (pages_from c k n) p [] ≡ page_in c (k + p)
table_at c k n p low = get_or-tabulate n p (λ q. page_in c (k + q)) [] low

page_at : (c : List ℕ) (k p : ℕ) (xs : List (List ℕ)) → xs ≡ pages_from c k (length xs) → p < length xs → get_or xs p [] ≡ page_in c (k + p)
page_at c k p xs e low = ap (λ (ps : List (List ℕ)). get_or ps p []) e ∙ table_at c k (length xs) p low

-- a shorter list of the same pages
front_at : (c : List ℕ) (k n p : ℕ) (xs : List (List ℕ)) → xs ≡ pages_from c k (length xs) → n ≤ length xs → p < n → get_or (pages_from c k n) p [] ≡ get_or xs p []
front_at c k n p xs e most low = table_at c k n p low ∙ sym (page_at c k p xs e (omega arith))

-- the pages that stand on two chips from a sector on, as many as both have
pub shared_of : (c d : List ℕ) (k n : ℕ) (xs ys : List (List ℕ)) (r : SharedPages) → xs ≡ pages_from c k (length xs) → ys ≡ pages_from d k (length ys) → n ≡ min (length xs) (length ys)
    → PagesShared (pages_from c k n) (pages_from d k n) r → PagesShared xs ys r
shared_of c d k n xs ys Nothing e f count shared = shared
shared_of c d k n xs ys Equal e f count shared = λ p low high.
    let within : p < n = omega arith in
    let long : length (pages_from c k n) ≡ n = length-tabulate n (λ q. page_in c (k + q)) in
    let other : length (pages_from d k n) ≡ n = length-tabulate n (λ q. page_in d (k + q)) in
    sym (front_at c k n p xs e (omega arith) within) ∙ shared p (omega arith) (omega arith) ∙ front_at d k n p ys f (omega arith) within
shared_of c d k n xs ys (Differ p) e f count shared =
    let long : length (pages_from c k n) ≡ n = length-tabulate n (λ q. page_in c (k + q)) in
    let within : p < n = let low = shared.0 in omega arith in (
      omega arith,
      omega arith,
      λ same. shared.2 (front_at c k n p xs e (omega arith) within ∙ same ∙ sym (front_at d k n p ys f (omega arith) within)),
      λ q low. sym (front_at c k n q xs e (omega arith) (omega arith)) ∙ shared.3 q low ∙ front_at d k n q ys f (omega arith) (omega arith),
    )

pub all_shared : (c d : List ℕ) (k n m : ℕ) → m ≡ n → ((p : ℕ) → p < m → page_in c (k + p) ≡ page_in d (k + p)) → PagesShared (pages_from c k n) (pages_from d k n) Equal
all_shared c d k n m e each = λ p low high.
    let long : length (pages_from c k n) ≡ n = length-tabulate n (λ q. page_in c (k + q)) in
    let within : p < n = omega arith in
    table_at c k n p within ∙ each p (omega arith) ∙ sym (table_at d k n p within)

pub first_differs : (c d : List ℕ) (k n p : ℕ) → p < n → ((q : ℕ) → q < p → page_in c (k + q) ≡ page_in d (k + q)) → page_in c (k + p) ≢ page_in d (k + p) → PagesShared (pages_from c k n) (pages_from d k n) (Differ p)
first_differs c d k n p low each differ =
    let long : length (pages_from c k n) ≡ n = length-tabulate n (λ q. page_in c (k + q)) in
    let other : length (pages_from d k n) ≡ n = length-tabulate n (λ q. page_in d (k + q)) in (
      omega arith,
      omega arith,
      λ same. differ (sym (table_at c k n p low) ∙ same ∙ table_at d k n p low),
      λ q before. table_at c k n q (omega arith) ∙ each q before ∙ sym (table_at d k n q (omega arith)),
    )

-- ---- images

pub shared_kept : (c d : List ℕ) (i k n : ℕ) (a b : Option Held) (h g : Held) (x y : ImageSeen) (r : SharedPages) → k ≡ page_sector i 0 → a ≡ Some h → b ≡ Some g → ShowsHeld h x → ShowsHeld g y → IfSome a (KeepsImage c i) → IfSome b (KeepsImage d i)
    → x.version ≡ y.version → n ≡ min (min x.done y.done) most_pages → PagesShared (pages_from c k n) (pages_from d k n) r → Shares (KeepOneVersion a b) (complete_pages a) (complete_pages b) r
shared_kept c d i k n a b h g x y r at e f shown other keeps keeps_other version count shared =
    let mine : KeepsImage c i h = rw e at keeps in
    let their : KeepsImage d i g = rw f at keeps_other in
    let pages = kept_from c i k (length h.complete) h at refl mine in
    let other_pages = kept_from d i k (length g.complete) g at refl their in
    let within : length h.complete ≤ h.pages = mine.header.within in
    let most : h.pages ≤ most_pages = mine.header.most in
    let done : x.done ≡ length h.complete = shown.done in
    let other_done : y.done ≡ length g.complete = other.done in
    let all : n ≡ min (length h.complete) (length g.complete) = omega (arith, count, within, most, done, other_done) in
    let one : h.version ≡ g.version = sym shown.version ∙ version ∙ other.version in
    let found : Shares (KeepOneVersion (Some h) (Some g)) h.complete g.complete r = shares_pages (KeepOneVersion (Some h) (Some g)) h.complete g.complete r one (shared_of c d k n h.complete g.complete r (sym pages) (sym other_pages) all shared) in
    subst (λ (o : Option Held). Shares (KeepOneVersion o b) (complete_pages o) (complete_pages b) r) (sym e) (subst (λ (o : Option Held). Shares (KeepOneVersion (Some h) o) h.complete (complete_pages o) r) (sym f) found)

-- pages that are shared, and as many in both
same_pages : (xs ys : List (List ℕ)) → length xs ≡ length ys → PagesShared xs ys Equal → xs ≡ ys
same_pages xs ys long each = same_lists xs ys long (λ k d low. default k d low)
  where
    inside : (zs : List (List ℕ)) (k : ℕ) (d : List ℕ) → k < length zs → get_or zs k d ≡ get_or zs k []
    inside [] k d low = absurd (omega arith)
    inside (z ∷ zs) zero d low = refl
    inside (z ∷ zs) (suc k) d low = inside zs k d (omega arith)

    default : (k : ℕ) (d : List ℕ) → k < length xs → get_or xs k d ≡ get_or ys k d
    default k d low = inside xs k d low ∙ each k low (omega arith) ∙ sym (inside ys k d (omega arith))

same_held : (h g : Held) → h.version ≡ g.version → h.pages ≡ g.pages → h.crc ≡ g.crc → h.complete ≡ g.complete → h ≡ g
same_held h g a b c d =
    ap (λ v. record { version = v; pages = h.pages; crc = h.crc; complete = h.complete }) a ∙ ap (λ v. record { version = g.version; pages = v; crc = h.crc; complete = h.complete }) b
    ∙ ap (λ v. record { version = g.version; pages = g.pages; crc = v; complete = h.complete }) c ∙ ap (λ v. record { version = g.version; pages = g.pages; crc = g.crc; complete = v }) d

-- what is equal shares all
pub equal_shared : (One : Type 0) (xs : List (List ℕ)) (r : SharedPages) → One → Shares One xs xs r → r ≡ Equal
equal_shared One xs Nothing one shares = absurd (shares.pages one)
equal_shared One xs Equal one shares = refl
equal_shared One xs (Differ p) one shares = absurd ((shares.pages one).2 refl)

four : (a b c d : Bool) → ((a && b) && c) && d ≡ true → (a ≡ true) × (b ≡ true) × (c ≡ true) × (d ≡ true)
four true true true true e = (refl, refl, refl, refl)
four true true true false e = absurd cc
four true true false d e = absurd cc
four true false c d e = absurd cc
four false b c d e = absurd cc

four_true : (a b c d : Bool) → a ≡ true → b ≡ true → c ≡ true → d ≡ true → ((a && b) && c) && d ≡ true
four_true true true true true e f g h = refl
four_true true true true false e f g h = absurd cc
four_true true true false d e f g h = absurd cc
four_true true false c d e f g h = absurd cc
four_true false b c d e f g h = absurd cc

-- where all pages are shared there is a version together
shared_one : (One : Type 0) (xs ys : List (List ℕ)) (m n : ℕ) (r : SharedPages) → ((m ≡ n) → One) → (One → m ≡ n) → Shares One xs ys r → r ≡ Equal → m ≡ n
shared_one One xs ys m n r to from shares e = by (m == n) refl
  where
    by : (b : Bool) → (m == n) ≡ b → m ≡ n
    by true same = eqb-true m n same
    by false other = let no : r ≡ Nothing = shares.nothing (λ one. let yes : (m == n) ≡ true = eq-eqb m n (from one) in absurd cc) in absurd cc

pub alike_both : (a b : Option Held) (h g : Held) (x y : ImageSeen) (r : SharedPages) (all : Bool) → a ≡ Some h → b ≡ Some g → ShowsHeld h x → ShowsHeld g y → Shares (h.version ≡ g.version) h.complete g.complete r → IsTrue all ↔ (r ≡ Equal)
    → IsTrue (((all && (x.pages == y.pages)) && (x.crc == y.crc)) && (x.done == y.done)) ↔ (a ≡ b)
alike_both a b h g x y r all e f shown other shares iff = (
  λ yes.
      let parts = four all (x.pages == y.pages) (x.crc == y.crc) (x.done == y.done) yes in
      let equal = iff.0 parts.0 in
      let version = shared_one (h.version ≡ g.version) h.complete g.complete h.version g.version r (λ v. v) (λ v. v) shares equal in
      let pages = sym shown.pages ∙ eqb-true x.pages y.pages parts.1 ∙ other.pages in
      let crc = sym shown.crc ∙ eqb-true x.crc y.crc parts.2 ∙ other.crc in
      let count = sym shown.done ∙ eqb-true x.done y.done parts.3 ∙ other.done in
      let complete = same_pages h.complete g.complete count (subst (PagesShared h.complete g.complete) equal (shares.pages version)) in
      e ∙ ap Some (same_held h g version pages crc complete) ∙ sym f,
  λ same.
      let one : h ≡ g = let both : Some h ≡ Some g = sym e ∙ same ∙ f in cc in
      let own : Shares (h.version ≡ h.version) h.complete h.complete r = subst (λ (z : Held). Shares (h.version ≡ z.version) h.complete z.complete r) (sym one) shares in
      four_true all (x.pages == y.pages) (x.crc == y.crc) (x.done == y.done) (iff.1 (equal_shared (h.version ≡ h.version) h.complete r refl own))
      (eq-eqb x.pages y.pages (shown.pages ∙ ap (λ (z : Held). z.pages) one ∙ sym other.pages)) (eq-eqb x.crc y.crc (shown.crc ∙ ap (λ (z : Held). z.crc) one ∙ sym other.crc))
      (eq-eqb x.done y.done (shown.done ∙ ap (λ (z : Held). length z.complete) one ∙ sym other.done)),
)

-- the same, where all is known to be shared
pub alike_then : (a b : Option Held) (o q : Option ImageSeen) (x y : ImageSeen) (r : SharedPages) (all p : Bool) → o ≡ Some x → q ≡ Some y → ShowsKept a o → ShowsKept b q → Shares (KeepOneVersion a b) (complete_pages a) (complete_pages b) r → IsTrue all ↔ (r ≡ Equal)
    → all ≡ true → p ≡ (((x.pages == y.pages) && (x.crc == y.crc)) && (x.done == y.done)) → IsTrue p ↔ (a ≡ b)
alike_then a b o q x y r all p e f shown other shares iff whole same =
    let h = shown_some a o x e shown in
    let g = shown_some b q y f other in
    let one : Shares (KeepOneVersion (Some h.0) b) h.0.complete (complete_pages b) r = subst (λ (z : Option Held). Shares (KeepOneVersion z b) (complete_pages z) (complete_pages b) r) h.1 shares in
    let both : Shares (KeepOneVersion (Some h.0) (Some g.0)) h.0.complete g.0.complete r = subst (λ (z : Option Held). Shares (KeepOneVersion (Some h.0) z) h.0.complete (complete_pages z) r) g.1 one in
    let found = alike_both a b h.0 g.0 x y r all h.1 g.1 h.2 g.2 both iff in
    subst (λ (v : Bool). IsTrue v ↔ (a ≡ b)) (sym same) (subst (λ (z : Bool). IsTrue (((z && (x.pages == y.pages)) && (x.crc == y.crc)) && (x.done == y.done)) ↔ (a ≡ b)) whole found)

-- neither keeps anything, or one does
pub alike_none : (a b : Option Held) (p : Option ImageSeen) (r : Bool) → a ≡ None → ShowsKept b p → IsTrue r ↔ (p ≡ None) → IsTrue r ↔ (a ≡ b)
alike_none a None p r e shown iff = (λ yes. e, λ same. iff.1 shown)
alike_none a (Some g) None r e shown iff = absurd shown
alike_none a (Some g) (Some y) r e shown iff = (λ yes. let no : Some y ≡ None = iff.0 yes in absurd cc, λ same. let no : None ≡ Some g = sym e ∙ same in absurd cc)

pub alike_one : (a b : Option Held) (h : Held) → a ≡ Some h → b ≡ None → IsTrue false ↔ (a ≡ b)
alike_one a b h e f = (λ no. absurd cc, λ same. let no : Some h ≡ None = sym e ∙ same ∙ f in absurd cc)

-- ---- program memory

-- program memory has the pages that its descriptor counts
pub app_from : (c : List ℕ) (app : App) (x : ProgramSeen) (k : ℕ) → HoldsApp c app → ShowsApp app x → k ≡ program_sector 0 → (app.pages ≡ pages_from c k (length app.pages)) × (x.pages.descriptor.pages ≡ length app.pages)
app_from c app x k holds shown at =
    let d = holds.described.0 in
    let is = holds.described.1 in
    let pages : app.pages ≡ program c d.pages = holds.described.4 in
    let count : length app.pages ≡ d.pages = ap length pages ∙ length-tabulate d.pages (λ p. page_in c (program_sector p)) in
    let some : 0 < d.pages = let e = is.head.range.pages in omega arith in
    let first : get_or app.pages 0 [] ≡ page_in c (program_sector 0) = ap (λ (ps : List (List ℕ)). get_or ps 0 []) pages ∙ first_of (λ p. page_in c (program_sector p)) d.pages some in
    let said : details_of x.pages.descriptor ≡ d = shown.pages.said ∙ ap fields_in first ∙ sym (fields_read (page_in c (program_sector 0)) d is) in
    (pages ∙ ap (program c) (sym count) ∙ sym (program_from c k (length app.pages) at), ap (λ (e : Details). e.pages) said ∙ sym count)

pub shared_set : (c d : List ℕ) (k n : ℕ) (a b : Option App) (p q : App) (x y : ProgramSeen) (r : SharedPages) → k ≡ program_sector 0 → a ≡ Some p → b ≡ Some q → ShowsApp p x → ShowsApp q y → IfSome a (HoldsApp c) → IfSome b (HoldsApp d)
    → (x.set.image ≡ y.set.image) × (x.set.version ≡ y.set.version) → n ≡ min x.pages.descriptor.pages y.pages.descriptor.pages → PagesShared (pages_from c k n) (pages_from d k n) r → Shares (SetToOne a b) (app_pages a) (app_pages b) r
shared_set c d k n a b p q x y r at e f shown other holds holds_other one count shared =
    let mine : HoldsApp c p = rw e at holds in
    let their : HoldsApp d q = rw f at holds_other in
    let pages = app_from c p x k mine shown at in
    let other_pages = app_from d q y k their other at in
    let all : n ≡ min (length p.pages) (length q.pages) = count ∙ ap (λ m. min m y.pages.descriptor.pages) pages.1 ∙ ap (min (length p.pages)) other_pages.1 in
    let set : SetToOne (Some p) (Some q) = (sym shown.image ∙ one.0 ∙ other.image, sym shown.version ∙ one.1 ∙ other.version) in
    let found : Shares (SetToOne (Some p) (Some q)) p.pages q.pages r = shares_pages (SetToOne (Some p) (Some q)) p.pages q.pages r set (shared_of c d k n p.pages q.pages r pages.0 other_pages.0 all shared) in
    subst (λ (o : Option App). Shares (SetToOne o b) (app_pages o) (app_pages b) r) (sym e) (subst (λ (o : Option App). Shares (SetToOne (Some p) o) p.pages (app_pages o) r) (sym f) found)

same_app : (p q : App) → p.image ≡ q.image → p.version ≡ q.version → p.pages ≡ q.pages → p ≡ q
same_app p q a b c =
    ap (λ v. record { image = v; version = p.version; pages = p.pages }) a ∙ ap (λ v. record { image = q.image; version = v; pages = p.pages }) b
    ∙ ap (λ v. record { image = q.image; version = q.version; pages = v }) c

two : (a b : Bool) → a && b ≡ true → (a ≡ true) × (b ≡ true)
two true true e = (refl, refl)
two true false e = absurd cc
two false b e = absurd cc

two_true : (a b : Bool) → a ≡ true → b ≡ true → a && b ≡ true
two_true true true e f = refl
two_true true false e f = absurd cc
two_true false b e f = absurd cc

-- where all pages are shared both are set to one
set_one : (One : Type 0) (xs ys : List (List ℕ)) (i j v w : ℕ) (r : SharedPages) → ((i ≡ j) × (v ≡ w) → One) → (One → (i ≡ j) × (v ≡ w)) → Shares One xs ys r → r ≡ Equal → (i ≡ j) × (v ≡ w)
set_one One xs ys i j v w r to from shares e = by (i == j) (v == w) refl refl
  where
    no : (One → ⊥) → ⊥
    no none = let nothing : r ≡ Nothing = shares.nothing none in absurd cc

    by : (b d : Bool) → (i == j) ≡ b → (v == w) ≡ d → (i ≡ j) × (v ≡ w)
    by true true f g = (eqb-true i j f, eqb-true v w g)
    by false d f g = absurd (no (λ one. let yes : (i == j) ≡ true = eq-eqb i j (from one).0 in absurd cc))
    by true false f g = absurd (no (λ one. let yes : (v == w) ≡ true = eq-eqb v w (from one).1 in absurd cc))

pub set_both : (c d : List ℕ) (a b : Option App) (p q : App) (x y : ProgramSeen) (r : SharedPages) (all : Bool) → a ≡ Some p → b ≡ Some q → ShowsApp p x → ShowsApp q y → IfSome a (HoldsApp c) → IfSome b (HoldsApp d)
    → Shares (SetToOne a b) (app_pages a) (app_pages b) r → IsTrue all ↔ (r ≡ Equal) → IsTrue (all && (x.pages.descriptor.pages == y.pages.descriptor.pages)) ↔ (a ≡ b)
set_both c d a b p q x y r all e f shown other holds holds_other shares iff =
    let mine : HoldsApp c p = rw e at holds in
    let their : HoldsApp d q = rw f at holds_other in
    let pages = app_from c p x (program_sector 0) mine shown refl in
    let other_pages = app_from d q y (program_sector 0) their other refl in
    let some : Shares (SetToOne (Some p) b) p.pages (app_pages b) r = subst (λ (o : Option App). Shares (SetToOne o b) (app_pages o) (app_pages b) r) e shares in
    let both : Shares (SetToOne (Some p) (Some q)) p.pages q.pages r = subst (λ (o : Option App). Shares (SetToOne (Some p) o) p.pages (app_pages o) r) f some in (
      λ yes.
          let parts = two all (x.pages.descriptor.pages == y.pages.descriptor.pages) yes in
          let equal = iff.0 parts.0 in
          let one = set_one (SetToOne (Some p) (Some q)) p.pages q.pages p.image q.image p.version q.version r (λ s. s) (λ s. s) both equal in
          let count = sym pages.1 ∙ eqb-true x.pages.descriptor.pages y.pages.descriptor.pages parts.1 ∙ other_pages.1 in
          let content = same_pages p.pages q.pages count (subst (PagesShared p.pages q.pages) equal (both.pages one)) in
          e ∙ ap Some (same_app p q one.0 one.1 content) ∙ sym f,
      λ same.
          let one : p ≡ q = let equal : Some p ≡ Some q = sym e ∙ same ∙ f in cc in
          let own : Shares (SetToOne (Some p) (Some p)) p.pages p.pages r = subst (λ (z : App). Shares (SetToOne (Some p) (Some z)) p.pages z.pages r) (sym one) both in
          two_true all (x.pages.descriptor.pages == y.pages.descriptor.pages) (iff.1 (equal_shared (SetToOne (Some p) (Some p)) p.pages r (refl, refl) own))
          (eq-eqb x.pages.descriptor.pages y.pages.descriptor.pages (pages.1 ∙ ap (λ (z : App). length z.pages) one ∙ sym other_pages.1)),
    )

pub set_alike_none : (a b : Option App) (p : Option ProgramSeen) (r : Bool) → a ≡ None → ShowsProgram b p → IsTrue r ↔ (p ≡ None) → IsTrue r ↔ (a ≡ b)
set_alike_none a None p r e shown iff = (λ yes. e, λ same. iff.1 shown)
set_alike_none a (Some g) None r e shown iff = absurd shown
set_alike_none a (Some g) (Some y) r e shown iff = (λ yes. let no : Some y ≡ None = iff.0 yes in absurd cc, λ same. let no : None ≡ Some g = sym e ∙ same in absurd cc)

pub set_alike_one : (a b : Option App) (h : App) → a ≡ Some h → b ≡ None → IsTrue false ↔ (a ≡ b)
set_alike_one a b h e f = (λ no. absurd cc, λ same. let no : Some h ≡ None = sym e ∙ same ∙ f in absurd cc)

-- ---- chips

three : (a b c : Bool) → (a && b) && c ≡ true → (a ≡ true) × (b ≡ true) × (c ≡ true)
three true true true e = (refl, refl, refl)
three true true false e = absurd cc
three true false c e = absurd cc
three false b c e = absurd cc

three_true : (a b c : Bool) → a ≡ true → b ≡ true → c ≡ true → (a && b) && c ≡ true
three_true true true true e f g = refl
three_true true true false e f g = absurd cc
three_true true false c e f g = absurd cc
three_true false b c e f g = absurd cc

-- a value for an index after the last
level : ImageCompared
level = record { ahead = None; shared = Nothing; alike = true }

pub volumes_alike : (s t : Store) (xs : List ImageCompared) (x : ProgramCompared) (y : OrderCompared) (all : Bool) → length xs ≡ images → ((i : ℕ) (d : ImageCompared) → i < images → ComparesImage s t i (get_or xs i d)) → IsTrue all ↔ All (λ z. IsTrue z.alike) xs
    → ComparesProgram s t x → ComparesOrder s t y → IsTrue ((all && x.alike) && y.alike) ↔ AreAlike s t
volumes_alike s t xs x y all count each iff program order = (
  λ yes.
      let parts = three all x.alike y.alike yes in
      let alike = iff.0 parts.0 in
      record {
        images = λ i low. (each i level low).alike.0 (alike i level (let bound : i < images = low in omega arith));
        program = program.alike.0 parts.1;
        orders = order.alike.0 parts.2;
      },
  λ same. three_true all x.alike y.alike (iff.1 (λ k d low. (each k d (let bound : k < length xs = low in omega arith)).alike.1 (same.images k (let bound : k < length xs = low in omega arith)))) (program.alike.1 same.program) (order.alike.1 same.orders),
)

-- ---- orders

pub orders_then : (s t : Store) (x y : VolumeSeen) (same alike w v : Bool) (l : Option Side) → ShowsStore s x → ShowsStore t y → IsTrue same ↔ (x.order ≡ y.order) → same ≡ true → w ≡ waives_order s → v ≡ waives_order t → IsTrue alike ↔ (w ≡ v)
    → l ≡ larger x.order.number y.order.number → ComparesOrder s t (record { ahead = l; alike = alike })
orders_then s t x y same alike w v l shown other iff equal waived waived_too both ahead =
    record {
      ahead = ahead ∙ ap (λ (o : Order). larger o.number y.order.number) shown.order ∙ ap (λ (o : Order). larger s.order.number o.number) other.order;
      alike = (
        λ so. record { order = sym shown.order ∙ iff.0 equal ∙ other.order; waived = sym waived ∙ both.0 so ∙ waived_too },
        λ orders. both.1 (waived ∙ orders.waived ∙ sym waived_too),
      );
    }
