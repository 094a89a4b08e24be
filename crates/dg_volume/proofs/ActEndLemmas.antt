-- The stores in which takes, fills and injections end.
use Rattle.std.proofs.Common.{◌≡◌, ℕ, ◌-◌, ◌<◌, Bool, true, false, cond, List, [], ◌∷◌, length, drop, get_or, set, Option, Some, None, IfSome, refl, sym, ap, subst, ◌∙◌, ⊎_elim, arith, append_assoc, get_or-set_other, get_or-set_same}
use Rattle.dg_volume.proofs.HeldLemmas.{held_paged}
use Rattle.std.specs.Prelude.{◌==◌, if◌then◌else◌, option_map}
use Rattle.std.proofs.lemmas.Bool.{cases_Bool, cases_eq, eqb-true}
use Rattle.std.proofs.lemmas.List.{same_lists, get_or_default, take-append-drop, append-nil}
use Rattle.std.proofs.Math.ListN.{length-set}
use Rattle.dg_nor.specs.Trail.{Trail, last, joined, resting, stepping}
use Rattle.dg_nor.proofs.TrailLemmas.{last-joined, last-resting, last-stepping}
use Rattle.dg_control.specs.Store.{commit_operations}
use Rattle.dg_object.specs.Object.{Row, Outline, object, profile}
use Rattle.dg_slot.specs.Layout.{page_operations}
use Rattle.dg_slot.specs.Kept.{Held, held_begun, with_page}
use Rattle.dg_volume.specs.Sizes.{old_form}
use Rattle.dg_volume.specs.Store.{Store, held, held_to, held_whole}
use Rattle.dg_volume.specs.Changes.{spent, keeping, paged, is_version, inject_refusal}
use Rattle.dg_volume.specs.Trails.{committing, migrate_trail, done_of, drop_by, drop_trail, open_trail, take_trail, fill_trail, inject_by, inject_trail}
use Rattle.dg_volume.specs.Ends.{take_commits, taken, with_pages, injected, KeepsPagesOf}
use Rattle.dg_volume.specs.declared.volume.InjectFault.{InjectFault}
use Rattle.dg_volume.proofs.FillLemmas.{fill_first}
use Rattle.dg_volume.proofs.RowLemmas.{length-held_to}

-- ---- one element of a list is replaced

set_twice : {A : Type 0} (xs : List A) (i : ℕ) (a b : A) → set (set xs i a) i b ≡ set xs i b
set_twice xs i a b =
    same_lists (set (set xs i a) i b) (set xs i b) (length-set (set xs i a) i b ∙ length-set xs i a ∙ sym (length-set xs i b)) (λ k d l.
    let long : k < length xs = omega (arith, l, length-set (set xs i a) i b, length-set xs i a) in
    ⊎_elim
    (λ e.
    let known : i < length xs = omega (arith, long, e) in
    let known_a : i < length (set xs i a) = omega (arith, known, length-set xs i a) in
    ap (λ (n : ℕ). get_or (set (set xs i a) i b) n d) e ∙ get_or-set_same (set xs i a) i b d known_a ∙ sym (get_or-set_same xs i b d known) ∙ ap (λ (n : ℕ). get_or (set xs i b) n d) (sym e))
    (λ other. get_or-set_other (set xs i a) i k b d other ∙ get_or-set_other xs i k a d other ∙ sym (get_or-set_other xs i k b d other))
    (cases_eq k i))

set_itself : {A : Type 0} (xs : List A) (i : ℕ) (a d : A) → i < length xs → get_or xs i d ≡ a → xs ≡ set xs i a
set_itself xs i a d known here =
    same_lists xs (set xs i a) (sym (length-set xs i a)) (λ k z l.
    ⊎_elim
    (λ e. ap (λ (n : ℕ). get_or xs n z) e ∙ get_or_default xs i z d known ∙ here ∙ sym (get_or-set_same xs i a z known) ∙ ap (λ (n : ℕ). get_or (set xs i a) n z) (sym e))
    (λ other. sym (get_or-set_other xs i k a z other))
    (cases_eq k i))

keeping_twice : (s : Store) (i : ℕ) (a b : Option Held) → keeping i b (keeping i a s) ≡ keeping i b s
keeping_twice s i a b = ap (λ (xs : List (Option Held)). record s { kept = xs }) (set_twice s.kept i a b)

-- ---- a take

open_last : (s : Store) (p : Outline) → last (open_trail s p) ≡ keeping p.image (Some (held_begun p)) (spent s)
open_last s p =
    let t = keeping p.image (Some (held_begun p)) (spent s) in
    last-joined (resting s 2) (committing s t) (last-resting s 2) ∙ last-stepping s (commit_operations s.room) t

open_after : (t : Trail Store) (p : Outline) → last (joined t (open_trail (last t) p)) ≡ keeping p.image (Some (held_begun p)) (spent (last t))
unfolding joined
open_after t p = last-joined t (open_trail (last t) p) refl ∙ open_last (last t) p

take_last_by : (s : Store) (p : Outline) (o : Option Held) → last (joined (drop_by o s p.image) (open_trail (last (drop_by o s p.image)) p)) ≡ keeping p.image (Some (held_begun p)) (record s { room = s.room - take_commits o })
take_last_by s p None =
    open_after (resting s 0) p ∙ ap (λ (x : Store). keeping p.image (Some (held_begun p)) (spent x)) (last-resting s 0)
take_last_by s p (Some h) =
    let g = Some (held_begun p) in
    let x = keeping p.image None (spent s) in
    let room : s.room - 1 - 1 ≡ s.room - 2 = omega arith in
    open_after (committing s x) p
    ∙ ap (λ (y : Store). keeping p.image g (spent y)) (last-stepping s (commit_operations s.room) x)
    ∙ ap (λ (xs : List (Option Held)). record s { kept = xs; room = s.room - 1 - 1 }) (set_twice s.kept p.image None g)
    ∙ ap (λ (n : ℕ). record s { kept = set s.kept p.image g; room = n }) room

pub take_last : (s : Store) (p : Outline) → last (take_trail s p) ≡ taken s p
unfolding take_trail drop_trail
take_last s p = take_last_by s p (held s p.image)

-- ---- pages that are filled

pub fill_last : (s : Store) (image : ℕ) (h : Held) (pages : List (List ℕ)) → image < length s.kept → held s image ≡ Some h → last (fill_trail s image pages) ≡ keeping image (Some (with_pages h pages)) s
unfolding fill_trail
fill_last s image h [] known here =
    let none : with_pages h [] ≡ h = ap (λ (xs : List (List ℕ)). record h { complete = xs }) (append-nil h.complete) in
    last-resting s 0 ∙ ap (λ (xs : List (Option Held)). record s { kept = xs }) (set_itself s.kept image (Some (with_pages h [])) None known (here ∙ ap Some (sym none)))
fill_last s image h (page ∷ pages) known here =
    let t = paged image page s in
    let put = option_map (λ x. with_page x page) (held s image) in
    let known_t : image < length t.kept = omega (arith, known, length-set s.kept image put) in
    let all : with_pages (with_page h page) pages ≡ with_pages h (page ∷ pages) = ap (λ (xs : List (List ℕ)). record h { complete = xs }) (append_assoc h.complete (page ∷ []) pages) in
    last-joined (stepping s page_operations t) (fill_trail t image pages) (last-stepping s page_operations t ∙ sym (fill_first t image pages))
    ∙ fill_last t image (with_page h page) pages known_t (held_paged s image h page known here)
    ∙ keeping_twice s image put (Some (with_pages (with_page h page) pages))
    ∙ ap (λ (g : Held). keeping image (Some g) s) all

-- ---- an injection

-- the missing pages of a row make it whole
rest_whole : (row : Row) (n : ℕ) → with_pages (held_to row n) (drop n (object row)) ≡ held_whole row
rest_whole row n = ap (λ (xs : List (List ℕ)). record { version = row.version; pages = (profile row).pages; crc = (profile row).crc; complete = xs }) (take-append-drop n (object row))

new_whole : (row : Row) → with_pages (held_begun (profile row)) (object row) ≡ held_whole row
new_whole row = refl

version_same : (o : Option Held) (version : ℕ) → is_version o version ≡ true → (h : Held) × (o ≡ Some h) × (h.version ≡ version)
version_same None version e = let f : false ≡ true = e in absurd cc
version_same (Some h) version e = (h, refl, eqb-true h.version version e)

-- the pages that are missing
goes_on : (s : Store) (row : Row) → row.image < length s.kept → IfSome (held s row.image) (KeepsPagesOf row) → is_version (held s row.image) row.version ≡ true
    → last (fill_trail s row.image (drop (done_of (held s row.image)) (object row))) ≡ keeping row.image (Some (held_whole row)) s
goes_on s row known keeps is =
    let found = version_same (held s row.image) row.version is in
    let pages = (subst (λ (o : Option Held). IfSome o (KeepsPagesOf row)) found.1 keeps) found.2 in
    let n = pages.0 in
    let here : held s row.image ≡ Some (held_to row n) = found.1 ∙ ap Some pages.2 in
    let done : done_of (held s row.image) ≡ n = ap done_of here ∙ length-held_to row n pages.1 in
    fill_last s row.image (held_to row n) (drop (done_of (held s row.image)) (object row)) known here
    ∙ ap (λ (k : ℕ). keeping row.image (Some (with_pages (held_to row n) (drop k (object row)))) s) done
    ∙ ap (λ (g : Held). keeping row.image (Some g) s) (rest_whole row n)

-- the version is new
begins : (s : Store) (row : Row) → row.image < length s.kept → last (joined (take_trail s (profile row)) (fill_trail (last (take_trail s (profile row))) row.image (object row)))
    ≡ keeping row.image (Some (held_whole row)) (record s { room = s.room - take_commits (held s row.image) })
begins s row known =
    let p = profile row in
    let t = take_trail s p in
    let g = Some (held_begun p) in
    let x : Store = record s { room = s.room - take_commits (held s row.image) } in
    let y = keeping row.image g x in
    let at : last t ≡ y = take_last s p in
    let known_y : row.image < length y.kept = omega (arith, known, length-set s.kept row.image g) in
    last-joined t (fill_trail (last t) row.image (object row)) (sym (fill_first (last t) row.image (object row)))
    ∙ ap (λ (z : Store). last (fill_trail z row.image (object row))) at
    ∙ fill_last y row.image (held_begun p) (object row) known_y (get_or-set_same s.kept row.image g None known)
    ∙ keeping_twice x row.image g (Some (held_whole row))

pub inject_last : (s : Store) (row : Row) → row.image < length s.kept → inject_refusal s row ≡ None → IfSome (held s row.image) (KeepsPagesOf row) → last (inject_trail s row) ≡ injected s row
unfolding inject_trail
inject_last s row known allowed keeps =
    let o = held s row.image in
    let v = is_version o row.version in
    let on = fill_trail s row.image (drop (done_of o) (object row)) in
    let anew = joined (take_trail s (profile row)) (fill_trail (last (take_trail s (profile row))) row.image (object row)) in
    let to : ℕ → Store = λ n. keeping row.image (Some (held_whole row)) (record s { room = s.room - n }) in
    let start : inject_by (inject_refusal s row) s row ≡ cond v on anew = ap (λ (r : Option InjectFault). inject_by r s row) allowed in
    ap last start
    ∙ ⊎_elim
    (λ yes.
    let none : s.room ≡ s.room - 0 = omega arith in
    ap (λ (b : Bool). last (cond b on anew)) yes ∙ goes_on s row known keeps yes ∙ ap (λ (n : ℕ). keeping row.image (Some (held_whole row)) (record s { room = n })) none
    ∙ ap (λ (b : Bool). to (cond b 0 (take_commits o))) (sym yes))
    (λ no. ap (λ (b : Bool). last (cond b on anew)) no ∙ begins s row known ∙ ap (λ (b : Bool). to (cond b 0 (take_commits o))) (sym no))
    (cases_Bool v)

-- ---- a migration

pub migrate_last : (form : ℕ) (s : Store) → last (migrate_trail form s) ≡ if form == old_form then spent s else s
migrate_last form s = by_form (form == old_form)
  where
    by_form : (b : Bool) → last (if b then committing s (spent s) else resting s 0) ≡ if b then spent s else s
    by_form true = last-stepping s (commit_operations s.room) (spent s)
    by_form false = last-resting s 0
