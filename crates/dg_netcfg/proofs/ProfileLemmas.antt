-- Documents, and the tables and arrays that `toml` reads them into.
use Rattle.std.proofs.Common.{◌≡◌, ℕ, zero, suc, ◌<◌, ◌≤◌, Bool, true, false, ◌&&◌, ◌||◌, cond, List, [], ◌∷◌, map, length, take, get_or, Option, Some, None, option_map, String, Global, string_bytes, Result, Err, refl, sym, ap, ◌∙◌, arith}
use Rattle.std.specs.List.{list_all, list_any}
use Rattle.std.specs.Map.{keys_of as map_keys}
use Rattle.std.specs.Str.{IsUtf8, is_utf8}
use Rattle.std.proofs.lemmas.Str.{IsUtf8-from_is_utf8, is_utf8-from_IsUtf8}
use Rattle.std.proofs.lemmas.List.{take_all}
use Rattle.toml.specs.Data.{Data, Items, Members, as_array}
use Rattle.toml.specs.Parse.{parse_document}
use Rattle.toml.specs.View.{view, items_view, members_view}
use Rattle.toml.specs.declared.value.Value.{Value}
use Rattle.dg_netcfg.specs.Document.{document_of, keys_of, list_of, two_array_items, all_of}
use Rattle.dg_netcfg.specs.Profile.{is_key, profile_link, is_same_link, has_repeat, profile_fields, netprofile}
use Rattle.dg_netcfg.specs.inner.Steps.{with_fields}
use Rattle.dg_netcfg.specs.Readings.{ReadsNetProfile}
use Rattle.dg_netcfg.specs.declared.profile.NetProfile.{NetProfile}
use Rattle.dg_netcfg.specs.declared.profile.ProfileFault.{ProfileFault}
use Rattle.dg_netcfg.specs.declared.profile.ProfileFault.TheVariants.{NotToml}

-- ---- documents

pub document_of-some : (bytes : List ℕ) (document : Members) → IsUtf8 bytes → parse_document bytes ≡ Some document → document_of bytes ≡ Some document
unfolding document_of
document_of-some bytes document text read = rw (is_utf8-from_IsUtf8 bytes text) read

refused : (bytes : List ℕ) (b : Bool) → is_utf8 bytes ≡ b → (IsUtf8 bytes → parse_document bytes ≡ None) → cond b (parse_document bytes) None ≡ None
refused bytes true is none = none (IsUtf8-from_is_utf8 bytes is)
refused bytes false is none = refl

pub document_of-none : (bytes : List ℕ) → (IsUtf8 bytes → parse_document bytes ≡ None) → document_of bytes ≡ None
unfolding document_of
document_of-none bytes none = refused bytes (is_utf8 bytes) refl none

-- what is read of a document is read of the bytes that encode it
pub reads_document : (bytes : List ℕ) (document : Members) (r : Result NetProfile ProfileFault) → document_of bytes ≡ Some document → ReadsNetProfile r (with_fields (profile_fields document)) → ReadsNetProfile r (netprofile bytes)
unfolding netprofile
reads_document bytes document r is reads = rw is reads

pub refuses_document : (bytes : List ℕ) → document_of bytes ≡ None → Err NotToml ≡ netprofile bytes
unfolding netprofile
refuses_document bytes is = rw is

-- ---- tables

pub list_all-keys_of : (es : List (String Global × Value)) → list_all is_key (keys_of (members_view es)) ≡ list_all (λ k. is_key (string_bytes k)) (map_keys es)
list_all-keys_of [] = refl
list_all-keys_of (e ∷ es) = ap (λ b. is_key (string_bytes e.0) && b) (list_all-keys_of es)

-- ---- arrays

two_of-short : (vs : List Value) → length vs < 2 → two_array_items (items_view vs) ≡ None
two_of-short [] short = refl
two_of-short (v ∷ []) short = refl
two_of-short (v ∷ w ∷ vs) short = absurd (omega arith)

two_of-long : (vs : List Value) → 3 ≤ length vs → two_array_items (items_view vs) ≡ None
two_of-long [] long = absurd (omega arith)
two_of-long (v ∷ []) long = absurd (omega arith)
two_of-long (v ∷ w ∷ []) long = absurd (omega arith)
two_of-long (v ∷ w ∷ x ∷ vs) long = refl

no_pair : (motes : ℕ) (entry : Data) (items : Items) → Some items ≡ as_array entry → two_array_items items ≡ None → None ≡ profile_link motes entry
no_pair motes entry items is none = rw (← is, none)

pub link_of-short : (motes : ℕ) (entry : Data) (vs : List Value) → Some (items_view vs) ≡ as_array entry → length vs < 2 → None ≡ profile_link motes entry
link_of-short motes entry vs is short = no_pair motes entry (items_view vs) is (two_of-short vs short)

pub link_of-long : (motes : ℕ) (entry : Data) (vs : List Value) → Some (items_view vs) ≡ as_array entry → 3 ≤ length vs → None ≡ profile_link motes entry
link_of-long motes entry vs is long = no_pair motes entry (items_view vs) is (two_of-long vs long)

map-list_of : {A : Type 0} (f : Data → A) (vs : List Value) → map f (list_of (items_view vs)) ≡ map (λ v. f (view v)) vs
map-list_of f [] = refl
map-list_of f (v ∷ vs) = ap (λ xs. f (view v) ∷ xs) (map-list_of f vs)

module _ {A : Type 0} where
  all_of-map_Some : (xs : List A) → all_of (map Some xs) ≡ Some xs
  all_of-map_Some [] = refl
  all_of-map_Some (x ∷ xs) = ap (option_map (λ ys. x ∷ ys)) (all_of-map_Some xs)

  missing_here : (o : Option A) (rest : List (Option A)) → o ≡ None → None ≡ all_of (o ∷ rest)
  missing_here None rest is = refl
  missing_here (Some x) rest is = absurd cc

  missing_later : (o : Option A) (rest : List (Option A)) → None ≡ all_of rest → None ≡ all_of (o ∷ rest)
  missing_later None rest is = refl
  missing_later (Some x) rest is = ap (option_map (λ ys. x ∷ ys)) is

  -- each value was read, up to the end
  pub all_of-whole : (f : Data → Option A) (vs : List Value) (i : ℕ) (xs : List A) → map Some xs ≡ map (λ v. f (view v)) (take i vs) → length vs ≤ i → Some xs ≡ all_of (map f (list_of (items_view vs)))
  all_of-whole f vs i xs read end =
      let whole : map Some xs ≡ map (λ v. f (view v)) vs = read ∙ ap (map (λ v. f (view v))) (take_all i vs end) in
      sym (all_of-map_Some xs) ∙ ap all_of (whole ∙ sym (map-list_of f vs))

  missing_at : (f : Value → Option A) (vs : List Value) (i : ℕ) (d : Value) → i < length vs → f (get_or vs i d) ≡ None → None ≡ all_of (map f vs)
  missing_at f [] i d within none = absurd (omega arith)
  missing_at f (v ∷ vs) zero d within none = missing_here (f v) (map f vs) none
  missing_at f (v ∷ vs) (suc i) d within none = missing_later (f v) (map f vs) (missing_at f vs i d (omega arith) none)

  -- the value at an index is missing
  pub all_of-missing : (f : Data → Option A) (vs : List Value) (i : ℕ) (d : Value) → i < length vs → f (view (get_or vs i d)) ≡ None → None ≡ all_of (map f (list_of (items_view vs)))
  all_of-missing f vs i d within none = missing_at (λ v. f (view v)) vs i d within none ∙ ap all_of (sym (map-list_of f vs))

-- ---- links

-- a link, and those after it
pub has_repeat-cons : (links others : List (ℕ × ℕ)) (link : ℕ × ℕ) (b : Bool) → links ≡ link ∷ others → b ≡ list_any (is_same_link link) others → has_repeat links ≡ (b || has_repeat others)
has_repeat-cons links others link b is among = rw (is, among)

-- a first element that does not pass, and an empty list
pub list_all-fails : {A : Type 0} (p : A → Bool) (xs ys : List A) (x : A) → xs ≡ x ∷ ys → p x ≡ false → list_all p xs ≡ false
list_all-fails p xs ys x is fails = rw (is, fails)

pub list_all-nil : {A : Type 0} (p : A → Bool) (xs : List A) → xs ≡ [] → list_all p xs ≡ true
list_all-nil p xs is = rw is
