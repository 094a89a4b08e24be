-- What the images that were declared say of a world's rows.
use Rattle.std.proofs.Common.{◌≡◌, Bool, true, false, cond, List, [], ◌∷◌, ◌++◌, refl, ap, sym, ◌∙◌, arith, eqb-true, Ordering}
use Rattle.std.specs.Prelude.{ℕ, not, ◌==◌, ◌&&◌, Option, Some, None, option_map}
use Rattle.std.specs.Map.{lookup}
use Rattle.std.specs.BTreeMap.{get, is_at}
use Rattle.std.proofs.lemmas.Bool.Decides.{nat_tests}
use Rattle.dg_object.specs.Object.{Row}
use Rattle.dg_volume.specs.Table.{row_at, has_image_version}
use Rattle.dg_rules.specs.Changes.{same_row, is_taken}
use Rattle.dg_base.specs.declared.events.ImageVersion.{ImageVersion}
use Rattle.dg_base.specs.contracts.events.ImageVersionOrd.TheImpl.{cmp-value}
use Rattle.dg_shared.specs.Images.{found, is_image_version, row_of_image, Declares, NothingDeclared}
use Rattle.dg_shared.specs.declared.images.Image.{Image}
use Rattle.dg_shared.specs.declared.images.Images.{Images}

-- the order of image versions
abbrev pub image_version_cmp : ImageVersion → ImageVersion → Ordering
image_version_cmp = cmp-value.it

same_test : (k q : ImageVersion) → is_at (image_version_cmp k) q ≡ is_image_version k q
same_test k q = grind (arith, nat_tests)

same_found : (q : ImageVersion) (es : List (ImageVersion × Image)) → lookup (is_at (image_version_cmp q)) es ≡ lookup (is_image_version q) es
same_found q [] = refl
same_found q (e ∷ es) = ap (λ (b : Bool). cond b (Some e.1) (lookup (is_at (image_version_cmp q)) es)) (same_test q e.0) ∙ ap (λ (r : Option Image). cond (is_image_version q e.0) (Some e.1) r) (same_found q es)

-- what is found where a row comes after the others
behind : Option Row → Bool → Row → Option Row
behind None b row = cond b (Some row) None
behind (Some kept) b row = Some kept

behind_step : (b c : Bool) (x row : Row) (r s : Option Row) → r ≡ behind s c row → cond b (Some x) r ≡ behind (cond b (Some x) s) c row
unfolding behind
behind_step true c x row r s e = refl
behind_step false c x row r s e = e

row_behind : (rows : List Row) (row : Row) (i v : ℕ) → row_at (rows ++ row ∷ []) i v ≡ behind (row_at rows i v) (has_image_version i v row) row
unfolding behind
row_behind [] row i v = refl
row_behind (x ∷ rows) row i v = behind_step (has_image_version i v x) (has_image_version i v row) x row _ _ (row_behind rows row i v)

behind_other : (s : Option Row) (row : Row) → behind s false row ≡ s
unfolding behind
behind_other None row = refl
behind_other (Some kept) row = refl

-- what is found of an image version, after an image was added whose version was not there
put_at : (b : Bool) (image_version q : ImageVersion) (image : Image) (r : Option Image) (s : Option Row) → option_map (row_of_image q) r ≡ s → (b ≡ true → s ≡ None) → (b ≡ true → q ≡ image_version)
    → option_map (row_of_image q) (cond b (Some image) r) ≡ behind s b (row_of_image image_version image)
unfolding behind
put_at true image_version q image r s e none same =
    ap (λ (k : ImageVersion). Some (row_of_image k image)) (same refl) ∙ sym (ap (λ (o : Option Row). behind o true (row_of_image image_version image)) (none refl))
put_at false image_version q image r s e none same = e ∙ sym (behind_other s (row_of_image image_version image))

and-left : (a b : Bool) → (a && b) ≡ true → a ≡ true
and-left true b e = refl
and-left false b e = cc

and-right : (a b : Bool) → (a && b) ≡ true → b ≡ true
and-right true b e = e
and-right false b e = cc

same_image_version_is : (k : ImageVersion) (i v : ℕ) → is_image_version k (record { image = i; version = v }) ≡ true → record { image = i; version = v } ≡ k
same_image_version_is k i v is =
    let e : i ≡ k.image = sym (eqb-true k.image i (and-left (k.image == i) (k.version == v) is)) in
    let f : v ≡ k.version = sym (eqb-true k.version v (and-right (k.image == i) (k.version == v) is)) in
    let P : ℕ → ℕ → ImageVersion = λ a b. record { image = a; version = b } in
    ap (λ (a : ℕ). P a v) e ∙ ap (P k.image) f

-- an image that is added is declared after the others
pub added : (old new : Images) (image_version : ImageVersion) (image : Image) (rows : List Row)
    → ((q : ImageVersion) → get image_version_cmp new.by_image_version q ≡ cond (is_at (image_version_cmp image_version) q) (Some image) (get image_version_cmp old.by_image_version q))
    → found old image_version ≡ None → Declares old rows → Declares new (rows ++ row_of_image image_version image ∷ [])
added old new image_version image rows put fresh declares =
    let at : (q : ImageVersion) → found new q ≡ cond (is_image_version image_version q) (Some image) (found old q) =
    λ q. sym (same_found q new.by_image_version.entries) ∙ put q ∙ ap (λ (b : Bool). cond b (Some image) (get image_version_cmp old.by_image_version q)) (same_test image_version q)
    ∙ ap (λ (r : Option Image). cond (is_image_version image_version q) (Some image) r) (same_found q old.by_image_version.entries) in
    record {
      each = λ i v. let q : ImageVersion = record { image = i; version = v } in
          ap (option_map (row_of_image q)) (at q)
          ∙ put_at (is_image_version image_version q) image_version q image (found old q) (row_at rows i v) (declares.each i v)
          (λ is. sym (declares.each i v) ∙ ap (option_map (row_of_image q)) (ap (found old) (same_image_version_is image_version i v is) ∙ fresh))
          (λ is. same_image_version_is image_version i v is)
          ∙ sym (row_behind rows (row_of_image image_version image) i v);
    }

-- ---- what is found

pub unknown_row : (images : Images) (rows : List Row) (image_version : ImageVersion) → Declares images rows → None ≡ found images image_version → row_at rows image_version.image image_version.version ≡ None
unknown_row images rows image_version declares none = sym (declares.each image_version.image image_version.version) ∙ ap (option_map (row_of_image image_version)) (sym none)

pub known_row : (images : Images) (rows : List Row) (image_version : ImageVersion) (image : Image) → Declares images rows → Some image ≡ found images image_version → row_at rows image_version.image image_version.version ≡ Some (row_of_image image_version image)
known_row images rows image_version image declares here = sym (declares.each image_version.image image_version.version) ∙ ap (option_map (row_of_image image_version)) (sym here)

-- images without a declaration
pub declares_none : (images : Images) → NothingDeclared images → Declares images []
declares_none images none = record { each = λ i v. let q : ImageVersion = record { image = i; version = v } in ap (option_map (row_of_image q)) (none q) }

-- whether a row is taken if its image version was declared
pub taken_by : (images : Images) (rows : List Row) (image_version : ImageVersion) (kept : Image) (row : Row) → Declares images rows → Some kept ≡ found images image_version
    → is_taken (row_at rows image_version.image image_version.version) row ≡ not (same_row (row_of_image image_version kept) row)
taken_by images rows image_version kept row declares here = ap (λ o. is_taken o row) (known_row images rows image_version kept declares here)
