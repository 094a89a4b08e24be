-- The definition that computes determines the fields, the links and the causes.
use Rattle.std.proofs.Common.{◌≡◌, ◌≢◌, ℕ, zero, suc, ◌-◌, ◌<◌, ◌≤◌, ℤ, pos, negsuc, Bool, true, false, cond, ◌&&◌, ◌||◌, Decides, List, [], ◌∷◌, map, Option, Some, None, option_map, Result, Ok, Err, refl, sym, ap, ◌∙◌, subst, arith}
use Rattle.std.specs.Prelude.{◌==◌, nat_le, codes, option_and_then, All, AllPairs, IfOk}
use Rattle.std.specs.List.{list_all, list_any, AllZip}
use Rattle.std.specs.Str.{is_utf8}
use Rattle.std.proofs.lemmas.Bool.{false_from_ne_true, ne_eqb}
use Rattle.std.proofs.lemmas.Bool.Decides.{Decides-eqb, Decides-and, Decides-or, Decides-by_and, nat_tests, not_from_Decides}
use Rattle.std.proofs.lemmas.Slice.Eq.{bytes_eq-Decides}
use Rattle.std.proofs.lemmas.Str.{IsUtf8-from_is_utf8}
use Rattle.std.proofs.lemmas.List.Elements.{All-cons, All-head, All-tail}
use Rattle.std.proofs.lemmas.List.Kept.{AllPairs-cons}
use Rattle.toml.specs.Data.{Data, string, integer, float, boolean, datetime, array, table, Items, no_items, item, Members, as_integer, as_array, get_member}
use Rattle.toml.specs.Parse.{parse_document}
use Rattle.dg_netcfg.specs.Document.{document_of, keys_of, list_of, integer_at, array_at, number_in_range, two_array_items, all_of}
use Rattle.dg_netcfg.specs.Profile.{is_key, three, profile_fields, profile_mote, link_between, profile_link, is_same_link, has_repeat, links_of, netprofile}
use Rattle.dg_netcfg.specs.inner.Steps.{once, with_port, with_links, with_motes, with_fields, with_document}
use Rattle.dg_netcfg.specs.Readings.{ReadsNetProfile, IsDocument, IsKey, HasFields, IsNumberInRange, IsLink, IsSameLink, AreLinks, IsAllowed, IsProfileReading}
use Rattle.dg_netcfg.specs.declared.profile.NetProfile.{NetProfile}
use Rattle.dg_netcfg.specs.declared.profile.ProfileFault.{ProfileFault}
use Rattle.dg_netcfg.specs.declared.profile.ProfileFault.TheVariants.{NotToml, Key, Id, Link, Port, Memory}
use Rattle.dg_netcfg.specs.Sizes.{most_motes, least_port, greatest_port}
use Rattle.dg_netcfg.proofs.ProfileLemmas.{document_of-some}

-- ---- options

module _ {A B : Type 0} where
  and_then-some : (f : A → Option B) (o : Option A) (y : B) → option_and_then f o ≡ Some y → (x : A) × (o ≡ Some x) × (f x ≡ Some y)
  and_then-some f None y e = absurd cc
  and_then-some f (Some x) y e = (x, refl, e)

if-some : {A : Type 0} (b : Bool) (x : Option A) (y : A) → cond b x None ≡ Some y → (b ≡ true) × (x ≡ Some y)
if-some true x y e = (refl, e)
if-some false x y e = absurd cc

-- ---- documents

document_read : (b : List ℕ) (d : Members) → document_of b ≡ Some d → IsDocument b d
unfolding document_of
document_read b d e = let both = if-some (is_utf8 b) (parse_document b) d e in (IsUtf8-from_is_utf8 b both.0, both.1)

-- ---- fields

key_decides : (k : List ℕ) → Decides (is_key k) (IsKey k)
key_decides k = Decides-or _ _ (Decides-or _ _ (bytes_eq-Decides k (codes "motes")) (bytes_eq-Decides k (codes "port"))) (bytes_eq-Decides k (codes "links"))

keys_decide : (ks : List (List ℕ)) → Decides (list_all is_key ks) (All IsKey ks)
keys_decide ks = Decides-by_and is_key IsKey (list_all is_key) key_decides refl (λ _ _. refl) ks

an_integer : (d : Data) (z : ℤ) → as_integer d ≡ Some z → d ≡ integer z
an_integer (string s) z e = absurd cc
an_integer (integer n) z e = let same : n ≡ z = cc in ap integer same
an_integer (float x) z e = absurd cc
an_integer (boolean b) z e = absurd cc
an_integer (datetime t) z e = absurd cc
an_integer (array ds) z e = absurd cc
an_integer (table ms) z e = absurd cc

an_array : (d : Data) (items : Items) → as_array d ≡ Some items → d ≡ array items
an_array (string s) items e = absurd cc
an_array (integer n) items e = absurd cc
an_array (float x) items e = absurd cc
an_array (boolean b) items e = absurd cc
an_array (datetime t) items e = absurd cc
an_array (array ds) items e = let same : ds ≡ items = cc in ap array same
an_array (table ms) items e = absurd cc

integer_found : (k : List ℕ) (d : Members) (z : ℤ) → integer_at k d ≡ Some z → get_member k d ≡ Some (integer z)
integer_found k d z e = let (x, found, is) = and_then-some as_integer (get_member k d) z e in found ∙ ap Some (an_integer x z is)

array_found : (k : List ℕ) (d : Members) (items : Items) → array_at k d ≡ Some items → get_member k d ≡ Some (array items)
array_found k d items e = let (x, found, is) = and_then-some as_array (get_member k d) items e in found ∙ ap Some (an_array x items is)

three-some : (m p : Option ℤ) (es : Option Items) (f : ℤ × ℤ × Items) → three m p es ≡ Some f → (m ≡ Some f.0) × (p ≡ Some f.1) × (es ≡ Some f.2)
three-some (Some m) (Some p) (Some es) f e =
    let same : (m, p, es) ≡ f = cc in
    (ap (λ x. Some x.0) same, ap (λ x. Some x.1) same, ap (λ x. Some x.2) same)
three-some (Some m) (Some p) None f e = absurd cc
three-some (Some m) None es f e = absurd cc
three-some None p es f e = absurd cc

has_fields : (b : List ℕ) (d : Members) (f : ℤ × ℤ × Items) → IsDocument b d → profile_fields d ≡ Some f → HasFields b f.0 f.1 f.2
has_fields b d f read e =
    let (known, found) = if-some (list_all is_key (keys_of d)) (three (integer_at (codes "motes") d) (integer_at (codes "port") d) (array_at (codes "links") d)) f e in
    let (m, p, es) = three-some (integer_at (codes "motes") d) (integer_at (codes "port") d) (array_at (codes "links") d) f found in
    record {
      document = d;
      read = read;
      motes_at = integer_found (codes "motes") d f.0 m;
      port_at = integer_found (codes "port") d f.1 p;
      links_at = array_found (codes "links") d f.2 es;
      keys = (keys_decide (keys_of d)).0 known;
    }

same_document : (b : List ℕ) (d c : Members) → IsDocument b d → IsDocument b c → d ≡ c
same_document b d c x y = let same : Some d ≡ Some c = sym x.1 ∙ y.1 in cc

fields_from : (b : List ℕ) (m p : ℤ) (es : Items) (h : HasFields b m p es) → profile_fields h.document ≡ Some (m, p, es)
fields_from b m p es h =
    rw ((keys_decide (keys_of h.document)).1 h.keys)
    (ap (λ o. three (option_and_then as_integer o) (integer_at (codes "port") h.document) (array_at (codes "links") h.document)) h.motes_at
    ∙ ap (λ o. three (Some m) (option_and_then as_integer o) (array_at (codes "links") h.document)) h.port_at
    ∙ ap (λ o. three (Some m) (Some p) (option_and_then as_array o)) h.links_at)

-- the document's fields are these alone
with_read : (b : List ℕ) (m p : ℤ) (es : Items) → HasFields b m p es → netprofile b ≡ with_fields (Some (m, p, es))
unfolding netprofile
with_read b m p es h = rw (document_of-some b h.document h.read.0 h.read.1) (ap with_fields (fields_from b m p es h))

-- ---- ranges

in_range_decides : (least most n : ℕ) → Decides (nat_le least n && nat_le n most) ((least ≤ n) × (n ≤ most))
in_range_decides least most n = Decides-and _ _ (le_decides least n) (le_decides n most) where
  le_decides : (a b : ℕ) → Decides (nat_le a b) (a ≤ b)
  le_decides a b = grind (arith, nat_tests)

within-some : (least most : ℕ) (z : ℤ) (n : ℕ) → number_in_range least most z ≡ Some n → IsNumberInRange least most z n
within-some least most (pos k) n e =
    let (test, found) = if-some (nat_le least k && nat_le k most) (Some k) n e in
    let same : k ≡ n = cc in
    let both = (in_range_decides least most k).0 test in
    (ap pos same, subst (λ m. least ≤ m) same both.0, subst (λ m. m ≤ most) same both.1)
within-some least most (negsuc k) n e = absurd cc

within-from : (least most : ℕ) (z : ℤ) (n : ℕ) → IsNumberInRange least most z n → number_in_range least most z ≡ Some n
within-from least most z n h = rw (h.0, (in_range_decides least most n).1 (h.1, h.2))

missing : {A : Type 0} (o : Option A) → ((x : A) → o ≡ Some x → ⊥) → o ≡ None
missing None h = refl
missing (Some x) h = absurd (h x refl)

no_value : {A : Type 0} (o : Option A) (x : A) → o ≡ None → o ≡ Some x → ⊥
no_value o x none some = cc

-- ---- links

a_mote : (motes : ℕ) (d : Data) (n : ℕ) → 1 ≤ motes → profile_mote motes d ≡ Some n → (d ≡ integer (pos n)) × (n < motes)
a_mote motes d n enough e =
    let (z, found, ranged) = and_then-some (number_in_range 0 (motes - 1)) (as_integer d) n e in
    let (is, low, high) = within-some 0 (motes - 1) z n ranged in
    (an_integer d z found ∙ ap integer is, omega arith)

mote_from : (motes n : ℕ) → n < motes → profile_mote motes (integer (pos n)) ≡ Some n
mote_from motes n below = within-from 0 (motes - 1) (pos n) n (refl, omega arith, omega arith)

a_pair : (items : Items) (p : Data × Data) → two_array_items items ≡ Some p → items ≡ item p.0 (item p.1 no_items)
a_pair no_items p e = absurd cc
a_pair (item a no_items) p e = absurd cc
a_pair (item a (item b no_items)) p e = let same : (a, b) ≡ p = cc in ap (λ x. item x.0 (item x.1 no_items)) same
a_pair (item a (item b (item c rest))) p e = absurd cc

not_equal : (a b : ℕ) (t : Bool) (l : ℕ × ℕ) → (a == b) ≡ t → cond t None (Some (a, b)) ≡ Some l → (a ≡ l.0) × (b ≡ l.1) × (l.0 ≢ l.1)
not_equal a b true l is e = absurd cc
not_equal a b false l is e =
    let same : (a, b) ≡ l = cc in
    let first : a ≡ l.0 = ap (λ x. x.0) same in
    let second : b ≡ l.1 = ap (λ x. x.1) same in
    (first, second, λ h. not_from_Decides (a == b) (Decides-eqb a b) is (first ∙ h ∙ sym second))

joined-some : (x y : Option ℕ) (l : ℕ × ℕ) → link_between x y ≡ Some l → (x ≡ Some l.0) × (y ≡ Some l.1) × (l.0 ≢ l.1)
joined-some (Some a) (Some b) l e = let (p, q, apart) = not_equal a b (a == b) l refl e in (ap Some p, ap Some q, apart)
joined-some (Some a) None l e = absurd cc
joined-some None y l e = absurd cc

a_link : (motes : ℕ) (entry : Data) (l : ℕ × ℕ) → 1 ≤ motes → profile_link motes entry ≡ Some l → IsLink motes entry l
a_link motes entry l enough e =
    let (p, pair, ends) = and_then-some (λ p. link_between (profile_mote motes p.0) (profile_mote motes p.1)) (option_and_then two_array_items (as_array entry)) l e in
    let (items, whole, two) = and_then-some two_array_items (as_array entry) p pair in
    let (a, b, apart) = joined-some (profile_mote motes p.0) (profile_mote motes p.1) l ends in
    let (first, below_first) = a_mote motes p.0 l.0 enough a in
    let (second, below_second) = a_mote motes p.1 l.1 enough b in
    let is : entry ≡ array (item (integer (pos l.0)) (item (integer (pos l.1)) no_items)) =
    an_array entry items whole ∙ ap array (a_pair items p two ∙ ap (λ x. item x (item p.1 no_items)) first ∙ ap (λ x. item (integer (pos l.0)) (item x no_items)) second) in
    (is, below_first, below_second, apart)

link_from : (motes : ℕ) (entry : Data) (l : ℕ × ℕ) → IsLink motes entry l → profile_link motes entry ≡ Some l
link_from motes entry l h =
    ap (profile_link motes) h.0 ∙ ap (λ o. link_between o (profile_mote motes (integer (pos l.1)))) (mote_from motes l.0 h.1)
    ∙ ap (link_between (Some l.0)) (mote_from motes l.1 h.2) ∙ ap (λ t. cond t None (Some (l.0, l.1))) (ne_eqb l.0 l.1 h.3)

map-some : {A B : Type 0} (f : A → B) (o : Option A) (y : B) → option_map f o ≡ Some y → (x : A) × (o ≡ Some x) × (y ≡ f x)
map-some f None y e = absurd cc
map-some f (Some x) y e = let same : y ≡ f x = cc in (x, refl, same)

all_of-cons : {A : Type 0} (o : Option A) (rest : List (Option A)) (xs : List A) → all_of (o ∷ rest) ≡ Some xs → (y : A) × (ys : List A) × (o ≡ Some y) × (all_of rest ≡ Some ys) × (xs ≡ y ∷ ys)
all_of-cons None rest xs e = absurd cc
all_of-cons (Some y) rest xs e = let (ys, found, is) = map-some (λ ys. y ∷ ys) (all_of rest) xs e in (y, ys, refl, found, is)

each_link : (motes : ℕ) (ds : List Data) (ls : List (ℕ × ℕ)) → 1 ≤ motes → all_of (map (profile_link motes) ds) ≡ Some ls → AllZip (IsLink motes) ds ls
each_link motes [] [] enough e = tt
each_link motes [] (l ∷ ls) enough e = absurd cc
each_link motes (d ∷ ds) ls enough e =
    let (l, ms, first, rest, is) = all_of-cons (profile_link motes d) (map (profile_link motes) ds) ls e in
    subst (AllZip (IsLink motes) (d ∷ ds)) (sym is) (a_link motes d l enough first, each_link motes ds ms enough rest)

each_link-from : (motes : ℕ) (ds : List Data) (ls : List (ℕ × ℕ)) → AllZip (IsLink motes) ds ls → all_of (map (profile_link motes) ds) ≡ Some ls
each_link-from motes [] [] h = refl
each_link-from motes [] (l ∷ ls) h = absurd h
each_link-from motes (d ∷ ds) [] h = absurd h
each_link-from motes (d ∷ ds) (l ∷ ls) h =
    ap (λ o. all_of (o ∷ map (profile_link motes) ds)) (link_from motes d l h.0) ∙ ap (option_map (λ ms. l ∷ ms)) (each_link-from motes ds ls h.1)

-- ---- repeats

abbrev Apart : ℕ × ℕ → ℕ × ℕ → Type 0
Apart l m = ¬ IsSameLink l m

same_decides : (l m : ℕ × ℕ) → Decides (is_same_link l m) (IsSameLink l m)
same_decides l m =
    Decides-or _ _ (Decides-and _ _ (Decides-eqb l.0 m.0) (Decides-eqb l.1 m.1)) (Decides-and _ _ (Decides-eqb l.0 m.1) (Decides-eqb l.1 m.0))

or_parts : (a b : Bool) → (a || b) ≡ false → (a ≡ false) × (b ≡ false)
or_parts false b e = (refl, e)
or_parts true b e = absurd cc

none_same : (l : ℕ × ℕ) (ls : List (ℕ × ℕ)) → list_any (is_same_link l) ls ≡ false → All (Apart l) ls
none_same l [] e = λ k d number_in_range. absurd (omega arith)
none_same l (m ∷ ms) e =
    let (first, rest) = or_parts (is_same_link l m) (list_any (is_same_link l) ms) e in
    All-cons (Apart l) m ms (not_from_Decides (is_same_link l m) (same_decides l m) first) (none_same l ms rest)

none_same-from : (l : ℕ × ℕ) (ls : List (ℕ × ℕ)) → All (Apart l) ls → list_any (is_same_link l) ls ≡ false
none_same-from l [] h = refl
none_same-from l (m ∷ ms) h =
    let first : is_same_link l m ≡ false = false_from_ne_true (is_same_link l m) (λ t. All-head (Apart l) m ms h ((same_decides l m).0 t)) in
    rw (first, none_same-from l ms (All-tail (Apart l) m ms h))

apart : (ls : List (ℕ × ℕ)) → has_repeat ls ≡ false → AllPairs Apart ls
apart [] e = λ i j d below number_in_range. absurd (omega arith)
apart (l ∷ ls) e =
    let (first, rest) = or_parts (list_any (is_same_link l) ls) (has_repeat ls) e in
    AllPairs-cons Apart l ls (none_same l ls first) (apart ls rest)

apart-from : (ls : List (ℕ × ℕ)) → AllPairs Apart ls → has_repeat ls ≡ false
apart-from [] h = refl
apart-from (l ∷ ls) h =
    rw (none_same-from l ls (λ k d number_in_range. h zero (suc k) d (omega arith) (omega arith)), apart-from ls (λ i j d below number_in_range. h (suc i) (suc j) d (omega arith) (omega arith)))

once-by : (t : Bool) (xs ls : List (ℕ × ℕ)) → has_repeat xs ≡ t → cond t None (Some xs) ≡ Some ls → (xs ≡ ls) × (has_repeat xs ≡ false)
once-by true xs ls is e = absurd cc
once-by false xs ls is e = let same : xs ≡ ls = cc in (same, is)

once-some : (o : Option (List (ℕ × ℕ))) (ls : List (ℕ × ℕ)) → once o ≡ Some ls → (o ≡ Some ls) × (has_repeat ls ≡ false)
once-some None ls e = absurd cc
once-some (Some xs) ls e =
    let (same, none) = once-by (has_repeat xs) xs ls refl e in
    (ap Some same, subst (λ ys. has_repeat ys ≡ false) same none)

are_links : (motes : ℕ) (es : Items) (ls : List (ℕ × ℕ)) → 1 ≤ motes → links_of motes es ≡ Some ls → AreLinks motes es ls
are_links motes es ls enough e =
    let (read, none) = once-some (all_of (map (profile_link motes) (list_of es))) ls e in
    record { each = each_link motes (list_of es) ls enough read; once = apart ls none }

links_from : (motes : ℕ) (es : Items) (ls : List (ℕ × ℕ)) → AreLinks motes es ls → links_of motes es ≡ Some ls
links_from motes es ls h = ap once (each_link-from motes (list_of es) ls h.each) ∙ ap (λ t. cond t None (Some ls)) (apart-from ls h.once)

-- ---- causes

reading_port : (b : List ℕ) (m p : ℤ) (es : Items) (n : ℕ) (ls : List (ℕ × ℕ)) (o : Option ℕ) → HasFields b m p es → IsNumberInRange 1 most_motes m n → AreLinks n es ls
    → number_in_range least_port greatest_port p ≡ o → IsProfileReading b (with_port n ls o)
reading_port b m p es n ls None h w are e =
    (m, p, es, n, ls, h, w, are, λ k x. no_value (number_in_range least_port greatest_port p) k e (within-from least_port greatest_port p k x))
reading_port b m p es n ls (Some k) h w are e = (m, p, es, h, w, are, within-some least_port greatest_port p k e)

reading_links : (b : List ℕ) (m p : ℤ) (es : Items) (n : ℕ) (o : Option (List (ℕ × ℕ))) → HasFields b m p es → IsNumberInRange 1 most_motes m n → links_of n es ≡ o → IsProfileReading b (with_links n p o)
reading_links b m p es n None h w e = (m, p, es, n, h, w, λ ls are. no_value (links_of n es) ls e (links_from n es ls are))
reading_links b m p es n (Some ls) h w e = reading_port b m p es n ls (number_in_range least_port greatest_port p) h w (are_links n es ls w.1 e) refl

reading_motes : (b : List ℕ) (m p : ℤ) (es : Items) (o : Option ℕ) → HasFields b m p es → number_in_range 1 most_motes m ≡ o → IsProfileReading b (with_motes p es o)
reading_motes b m p es None h e = (m, p, es, h, λ n w. no_value (number_in_range 1 most_motes m) n e (within-from 1 most_motes m n w))
reading_motes b m p es (Some n) h e = reading_links b m p es n (links_of n es) h (within-some 1 most_motes m n e) refl

reading_fields : (b : List ℕ) (d : Members) (o : Option (ℤ × ℤ × Items)) → IsDocument b d → profile_fields d ≡ o → IsProfileReading b (with_fields o)
reading_fields b d None read e =
    (d, read, λ m p es h. no_value (profile_fields d) (m, p, es) e (subst (λ c. profile_fields c ≡ Some (m, p, es)) (same_document b h.document d h.read read) (fields_from b m p es h)))
reading_fields b d (Some f) read e = reading_motes b f.0 f.1 f.2 (number_in_range 1 most_motes f.0) (has_fields b d f read e) refl

reading_document : (b : List ℕ) (o : Option Members) → document_of b ≡ o → IsProfileReading b (with_document o)
reading_document b None e = λ d is. no_value (document_of b) d e (document_of-some b d is.0 is.1)
reading_document b (Some d) e = reading_fields b d (profile_fields d) (document_read b d e) refl

pub reads : (b : List ℕ) → IsProfileReading b (netprofile b)
unfolding netprofile
reads b = reading_document b (document_of b) refl

-- a reader that answers what is encoded reports its cause
pub reads_causes : (b : List ℕ) (r : Result NetProfile ProfileFault) → ReadsNetProfile r (netprofile b) → IsProfileReading b r
reads_causes b (Ok p) h = subst (IsProfileReading b) (sym h) (reads b)
reads_causes b (Err NotToml) h = subst (IsProfileReading b) (sym h) (reads b)
reads_causes b (Err Key) h = subst (IsProfileReading b) (sym h) (reads b)
reads_causes b (Err Id) h = subst (IsProfileReading b) (sym h) (reads b)
reads_causes b (Err Link) h = subst (IsProfileReading b) (sym h) (reads b)
reads_causes b (Err Port) h = subst (IsProfileReading b) (sym h) (reads b)
reads_causes b (Err Memory) h = tt

pub is_read : (b : List ℕ) (r : Result NetProfile ProfileFault) → r ≢ Err Memory → IsProfileReading b r → netprofile b ≡ r
unfolding netprofile
is_read b (Err NotToml) ne h = ap with_document (missing (document_of b) (λ d e. h d (document_read b d e)))
is_read b (Err Key) ne h =
    ap with_document (document_of-some b h.0 h.1.0 h.1.1) ∙ ap with_fields (missing (profile_fields h.0) (λ f e. h.2 f.0 f.1 f.2 (has_fields b h.0 f h.1 e)))
is_read b (Err Id) ne h = with_read b h.0 h.1 h.2 h.3 ∙ ap (with_motes h.1 h.2) (missing (number_in_range 1 most_motes h.0) (λ n e. h.4 n (within-some 1 most_motes h.0 n e)))
is_read b (Err Link) ne h =
    with_read b h.0 h.1 h.2 h.4 ∙ ap (with_motes h.1 h.2) (within-from 1 most_motes h.0 h.3 h.5)
    ∙ ap (with_links h.3 h.1) (missing (links_of h.3 h.2) (λ ls e. h.6 ls (are_links h.3 h.2 ls h.5.1 e)))
is_read b (Err Port) ne h =
    with_read b h.0 h.1 h.2 h.5 ∙ ap (with_motes h.1 h.2) (within-from 1 most_motes h.0 h.3 h.6) ∙ ap (with_links h.3 h.1) (links_from h.3 h.2 h.4 h.7)
    ∙ ap (with_port h.3 h.4) (missing (number_in_range least_port greatest_port h.1) (λ k e. h.8 k (within-some least_port greatest_port h.1 k e)))
is_read b (Err Memory) ne h = absurd (ne refl)
is_read b (Ok p) ne h =
    with_read b h.0 h.1 h.2 h.3 ∙ ap (with_motes h.1 h.2) (within-from 1 most_motes h.0 p.motes h.4) ∙ ap (with_links p.motes h.1) (links_from p.motes h.2 p.links h.5)
    ∙ ap (with_port p.motes p.links) (within-from least_port greatest_port h.1 p.port h.6)

-- ---- what is allowed

abbrev Joins : ℕ → ℕ × ℕ → Type 0
Joins motes l = (l.0 < motes) × (l.1 < motes) × (l.0 ≢ l.1)

all_join : (motes : ℕ) (ds : List Data) (ls : List (ℕ × ℕ)) → AllZip (IsLink motes) ds ls → All (Joins motes) ls
all_join motes [] [] h = λ k d number_in_range. absurd (omega arith)
all_join motes [] (l ∷ ls) h = absurd h
all_join motes (d ∷ ds) [] h = absurd h
all_join motes (d ∷ ds) (l ∷ ls) h = All-cons (Joins motes) l ls (h.0.1, h.0.2, h.0.3) (all_join motes ds ls h.1)

pub allowed : (b : List ℕ) (r : Result NetProfile ProfileFault) → IsProfileReading b r → IfOk r IsAllowed
allowed b (Ok p) h =
    record {
      motes = (h.4.1, h.4.2);
      links = all_join p.motes (list_of h.2) p.links h.5.each;
      once = h.5.once;
      port = (h.6.1, h.6.2);
    }
allowed b (Err e) h = tt
