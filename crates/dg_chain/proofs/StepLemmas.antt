-- Data pages that are walked one after another.
use Rattle.std.proofs.Common.{◌≡◌, ◌⊎◌, inl, inr, ℕ, zero, suc, ◌+◌, ◌-◌, ◌≤◌, ◌==◌, ◌&&◌, nat_le, not, Bool, true, false, cond, List, [], ◌∷◌, length, take, drop, Option, Some, None, Result, Ok, Err, OnOk, refl, ap, sym, ◌∙◌, subst, arith}
use Rattle.std.specs.Prelude.{IsErrAnd}
use Rattle.std.specs.Int.{from_be_bytes, w32}
use Rattle.std.proofs.lemmas.List.{take-take}
use Rattle.std.proofs.lemmas.List.FromFn.{length-map-range_with_len}
use Rattle.sha2.specs.Sha256.{sha256}
use Rattle.dg_words.specs.Cells.{part}
use Rattle.dg_nor.specs.Chip.{sector}
use Rattle.dg_object.specs.Descriptor.{Details, IsDescriptor}
use Rattle.dg_slot.specs.Layout.{page_size, header_sector, page_sector, header_size, gates_at, gates_size}
use Rattle.dg_slot.specs.Pages.{page_in, slot_pages}
use Rattle.dg_slot.specs.Kept.{Held, KeepsImage}
use Rattle.dg_slot.proofs.HeaderLemmas.{done_read}
use Rattle.dg_slot.proofs.DescriptorLemmas.{one_descriptor, descriptor_head}
use Rattle.dg_chain.specs.Chain.{IsPayload, chain, root_of, most_payload, pages_of_size, no_digest}
use Rattle.dg_chain.specs.Checking.{field_of, is_same, Break, first_break, payload_length_in, last_field, has_shape, pages_on, data_pages, Answer, Fine, Broken, Misshapen, by_break, answer_of, Collision}
use Rattle.dg_chain.specs.Answers.{ChainAnswers, ChainEnds, Walks}
use Rattle.dg_nor.specs.Device.{Device}
use Rattle.dg_nor.specs.Reads.{Looked}
use Rattle.dg_nor.proofs.ReadLemmas.{Looked_then, ReadStopped_after}
use Rattle.dg_chain.specs.declared.checking.ChainFault.{ChainFault}
use Rattle.dg_chain.specs.declared.checking.ChainFault.TheVariants as fault
use Rattle.dg_chain.proofs.WalkLemmas.{named, own}

pub err_is : {T E : Type 0} (r : Result T E) (e : E) → IsErrAnd r (λ x. x ≡ e) → r ≡ Err e
err_is (Ok x) e h = absurd h
err_is (Err x) e h = ap Err h

-- ---- one page

pub not_false : (b : Bool) → not b ≡ false → b ≡ true
not_false true e = refl
not_false false e = cc

pub passes : (kept : List ℕ) (n : ℕ) (page digest : List ℕ) → digest ≡ sha256 page → is_same digest kept ≡ true → first_break kept n (page ∷ []) ≡ None
passes kept n page digest e t =
    ap (λ (b : Bool). cond b None (Some (record { page = n; kept = kept; found = sha256 page }))) (ap (λ (d : List ℕ). is_same d kept) (sym e) ∙ t)

pub first_four : (cells four : List ℕ) → four ≡ part cells 0 4 → four ≡ take 4 (part cells 0 1104)
unfolding part
first_four cells four e = e ∙ sym (take-take 4 1104 (drop 0 cells) (omega arith))

-- ---- pages that follow

-- the digest that the last of these pages carries, or this one if there are no pages
abbrev pub last_or : List ℕ → List (List ℕ) → List ℕ
last_or kept [] = kept
last_or kept (page ∷ pages) = last_or (field_of page) pages

last_is : (kept page : List ℕ) (pages : List (List ℕ)) → last_or kept (page ∷ pages) ≡ last_field (page ∷ pages)
last_is kept page [] = refl
last_is kept page (next ∷ pages) = last_is (field_of page) next pages

pub last_of_some : (kept c : List ℕ) (image from n : ℕ) → 1 ≤ n → last_or kept (pages_on c image from n) ≡ last_field (pages_on c image from n)
last_of_some kept c image from zero h = absurd (omega arith)
last_of_some kept c image from (suc n) h = last_is kept (page_in c (page_sector image from)) (pages_on c image (from + 1) n)

-- a page that is broken is the first
broken_by : (t : Bool) (a b : Option Break) (x y : Break) → cond t None (Some x) ≡ Some y → cond t b (Some x) ≡ Some y
broken_by true a b x y e = cc
broken_by false a b x y e = e

pub broken_here : (kept : List ℕ) (n : ℕ) (page : List ℕ) (pages : List (List ℕ)) (at : Break) → first_break kept n (page ∷ []) ≡ Some at → first_break kept n (page ∷ pages) ≡ Some at
broken_here kept n page pages at e =
    broken_by (is_same (sha256 page) kept) None (first_break (field_of page) (n + 1) pages) (record { page = n; kept = kept; found = sha256 page }) at e

-- a page that is not broken gives the digest of the next
pass_by : (t : Bool) (b : Option Break) (x : Break) → cond t None (Some x) ≡ None → cond t b (Some x) ≡ b
pass_by true b x e = refl
pass_by false b x e = cc

pub passed_here : (kept : List ℕ) (n : ℕ) (page : List ℕ) (pages : List (List ℕ)) → first_break kept n (page ∷ []) ≡ None → first_break kept n (page ∷ pages) ≡ first_break (field_of page) (n + 1) pages
passed_here kept n page pages e =
    pass_by (is_same (sha256 page) kept) (first_break (field_of page) (n + 1) pages) (record { page = n; kept = kept; found = sha256 page }) e

-- ---- a walk over the pages of a slot: it is at page n, and `whole` is what the pages from page 1 on say

pub walk_more : (c d : List ℕ) (image n m k : ℕ) (kept next : List ℕ) (whole : Option Break) → d ≡ c → m ≡ suc k
    → first_break kept n (page_in d (page_sector image n) ∷ []) ≡ None → next ≡ field_of (page_in d (page_sector image n))
    → first_break kept n (pages_on c image n m) ≡ whole → first_break next (n + 1) (pages_on c image (n + 1) k) ≡ whole
walk_more c d image n m k kept next whole same count pass is before =
    let page = page_in c (page_sector image n) in
    let here : first_break kept n (page ∷ []) ≡ None = subst (λ (x : List ℕ). first_break kept n (page_in x (page_sector image n) ∷ []) ≡ None) same pass in
    let named_next : next ≡ field_of page = is ∙ ap (λ (x : List ℕ). field_of (page_in x (page_sector image n))) same in
    ap (λ (x : List ℕ). first_break x (n + 1) (pages_on c image (n + 1) k)) named_next
    ∙ sym (passed_here kept n page (pages_on c image (n + 1) k) here)
    ∙ ap (λ (j : ℕ). first_break kept n (pages_on c image n j)) (sym count)
    ∙ before

pub last_more : (c d : List ℕ) (image n m k : ℕ) (kept next whole : List ℕ) → d ≡ c → m ≡ suc k → next ≡ field_of (page_in d (page_sector image n))
    → last_or kept (pages_on c image n m) ≡ whole → last_or next (pages_on c image (n + 1) k) ≡ whole
last_more c d image n m k kept next whole same count is before =
    ap (λ (x : List ℕ). last_or x (pages_on c image (n + 1) k)) (is ∙ ap (λ (x : List ℕ). field_of (page_in x (page_sector image n))) same)
    ∙ ap (λ (j : ℕ). last_or kept (pages_on c image n j)) (sym count)
    ∙ before

walk_fault : (c d : List ℕ) (image n m k : ℕ) (kept root : List ℕ) (all : List (List ℕ)) (e : ChainFault) → d ≡ c → m ≡ suc k → first_break kept n (pages_on c image n m) ≡ first_break root 1 all
    → Walks kept n (page_in d (page_sector image n) ∷ []) (Err e) → Walks root 1 all (Err e)
walk_fault c d image n m k kept root all fault.Stopped same count before walks = tt
walk_fault c d image n m k kept root all (fault.Broken page found other) same count before walks =
    let at : Break = record { page = page; kept = found; found = other } in
    let here : first_break kept n (page_in c (page_sector image n) ∷ []) ≡ Some at = subst (λ (x : List ℕ). first_break kept n (page_in x (page_sector image n) ∷ []) ≡ Some at) same walks in
    sym before ∙ ap (λ (j : ℕ). first_break kept n (pages_on c image n j)) count ∙ broken_here kept n (page_in c (page_sector image n)) (pages_on c image (n + 1) k) at here
walk_fault c d image n m k kept root all fault.Shape same count before walks = absurd walks

pub walk_stops : (c d : List ℕ) (image n m k : ℕ) (kept root : List ℕ) (all : List (List ℕ)) (e : ChainFault) (r : Result (List ℕ) ChainFault) → IsErrAnd r (λ f. f ≡ e) → d ≡ c → m ≡ suc k
    → first_break kept n (pages_on c image n m) ≡ first_break root 1 all → Walks kept n (page_in d (page_sector image n) ∷ []) (Err e) → Walks root 1 all r
walk_stops c d image n m k kept root all e (Ok x) is same count before walks = absurd is
walk_stops c d image n m k kept root all e (Err f) is same count before walks =
    subst (λ (g : ChainFault). Walks root 1 all (Err g)) (sym is) (walk_fault c d image n m k kept root all e same count before walks)

pub walk_ended : (c : List ℕ) (image n m : ℕ) (kept : List ℕ) (whole : Option Break) → m ≡ 0 → first_break kept n (pages_on c image n m) ≡ whole → whole ≡ None
walk_ended c image n m kept whole none e = sym (ap (λ (j : ℕ). first_break kept n (pages_on c image n j)) (sym none) ∙ e)

pub last_ended : (c : List ℕ) (image n m : ℕ) (kept whole : List ℕ) → m ≡ 0 → last_or kept (pages_on c image n m) ≡ whole → kept ≡ whole
last_ended c image n m kept whole none e = ap (λ (j : ℕ). last_or kept (pages_on c image n j)) (sym none) ∙ e

-- ---- how the chip is left

failed_after : (T U : Type 0) (e : ChainFault) (a b c : Device) → Looked a b → ChainEnds {T = T} (Err e) b c → ChainEnds {T = U} (Err e) a c
failed_after T U fault.Stopped a b c looked ends = ReadStopped_after looked ends
failed_after T U (fault.Broken page kept found) a b c looked ends = Looked_then looked ends
failed_after T U fault.Shape a b c looked ends = Looked_then looked ends

pub stops_after : {T U : Type 0} (r : Result U ChainFault) (q : Result T ChainFault) (e : ChainFault) (a b c : Device) → IsErrAnd r (λ f. f ≡ e) → q ≡ Err e → Looked a b → ChainEnds q b c → ChainEnds r a c
stops_after (Ok x) q e a b c is was looked ends = absurd is
stops_after {T} {U} (Err f) q e a b c is was looked ends =
    let here : ChainEnds {T = T} (Err e) b c = subst (λ (z : Result T ChainFault). ChainEnds z b c) was ends in
    subst (λ (g : ChainFault). ChainEnds {T = U} (Err g) a c) (sym is) (failed_after T U e a b c looked here)

pub ends_after : {T : Type 0} (r : Result T ChainFault) (a b c : Device) → Looked a b → ChainEnds r b c → ChainEnds r a c
ends_after (Ok x) a b c looked ends = Looked_then looked ends
ends_after {T} (Err e) a b c looked ends = failed_after T T e a b c looked ends

-- ---- the answer

answer_fault : (root : List ℕ) (pages : List (List ℕ)) (e : ChainFault) → Walks root 1 pages (Err e) → ChainAnswers (Err e) (answer_of root pages)
unfolding answer_of
answer_fault root pages fault.Stopped walks = tt
answer_fault root pages (fault.Broken page found other) walks = ap (λ (o : Option Break). by_break o pages) walks
answer_fault root pages fault.Shape walks = absurd walks

pub answer_stops : (root : List ℕ) (pages : List (List ℕ)) (e : ChainFault) (r : Result ℕ ChainFault) → IsErrAnd r (λ f. f ≡ e) → Walks root 1 pages (Err e) → ChainAnswers r (answer_of root pages)
answer_stops root pages e (Ok x) is walks = absurd is
answer_stops root pages e (Err f) is walks = subst (λ (g : ChainFault). ChainAnswers (Err g) (answer_of root pages)) (sym is) (answer_fault root pages e walks)

length_pages : (c : List ℕ) (image n : ℕ) → length (data_pages c image n) ≡ n
length_pages c image n = length-map-range_with_len (λ (p : ℕ). page_in c (page_sector image p)) 1 n

length_first : (c : List ℕ) (image n : ℕ) → 1 ≤ n → payload_length_in (data_pages c image n) ≡ from_be_bytes w32 (take 4 (page_in c (page_sector image 1)))
length_first c image zero h = absurd (omega arith)
length_first c image (suc n) h = refl

abbrev shape_by : ℕ → ℕ → List ℕ → Bool
shape_by len count last = nat_le 1 len && (nat_le len most_payload && ((count == pages_of_size len) && is_same last no_digest))

pub answered : (c d : List ℕ) (image count len : ℕ) (root last : List ℕ) (t : Bool) → 1 ≤ count → first_break root 1 (data_pages c image count) ≡ None → last ≡ last_field (data_pages c image count)
    → d ≡ c → len ≡ from_be_bytes w32 (take 4 (page_in d (page_sector image 1))) → shape_by len count last ≡ t → answer_of root (data_pages c image count) ≡ cond t (Fine len) Misshapen
unfolding answer_of
answered c d image count len root last t some unbroken is same told shape =
    let pages = data_pages c image count in
    let length_is : payload_length_in pages ≡ len = length_first c image count some ∙ sym (told ∙ ap (λ (x : List ℕ). from_be_bytes w32 (take 4 (page_in x (page_sector image 1)))) same) in
    let has : has_shape pages ≡ t =
    ap (λ (n : ℕ). nat_le 1 n && (nat_le n most_payload && ((length pages == pages_of_size n) && is_same (last_field pages) no_digest))) length_is
    ∙ ap (λ (n : ℕ). shape_by len n (last_field pages)) (length_pages c image count)
    ∙ ap (shape_by len count) (sym is)
    ∙ shape in
    ap (λ (o : Option Break). by_break o pages) unbroken ∙ ap (λ (b : Bool). cond b (Fine (payload_length_in pages)) Misshapen) has ∙ ap (λ (n : ℕ). cond t (Fine n) Misshapen) length_is

-- ---- what the slot keeps

pub counted : (c : List ℕ) (i : ℕ) (g h : Held) (d : Details) → page_size ≤ length (sector c (page_sector i 0)) → KeepsImage c i g → length g.complete ≡ g.pages → IsDescriptor (page_in c (page_sector i 0)) d
    → KeepsImage c i h → d.pages - 1 + 1 ≡ length h.complete
counted c i g h d long keeps whole is kept =
    let some : 2 ≤ g.pages = keeps.header.some in
    let has = keeps.first (omega (arith, some, whole)) in
    let other : Details = has.described.0 in
    let same : other ≡ d = one_descriptor (sector c (page_sector i 0)) d other long (descriptor_head (sector c (page_sector i 0)) d long is) has.described.1 in
    let pages : d.pages ≡ g.pages = ap (λ (x : Details). x.pages) (sym same) ∙ has.described.4 in
    let cells = sector c (header_sector i) in
    let done : length h.complete ≡ length g.complete =
    sym (done_read (part cells 0 header_size) (part cells gates_at gates_size) i h.version h.pages h.crc (length h.complete) kept.header)
    ∙ done_read (part cells 0 header_size) (part cells gates_at gates_size) i g.version g.pages g.crc (length g.complete) keeps.header in
    omega (arith, some, whole, pages, done)

pages_behind : (c : List ℕ) (i n m : ℕ) → m ≡ suc n → drop 1 (slot_pages c i m) ≡ data_pages c i n
pages_behind c i n m e = ap (λ (k : ℕ). drop 1 (slot_pages c i k)) e

pub pages_kept : (c : List ℕ) (i n : ℕ) (h : Held) → KeepsImage c i h → n + 1 ≡ length h.complete → data_pages c i n ≡ drop 1 h.complete
pages_kept c i n h keeps e =
    let count : length h.complete ≡ suc n = omega arith in
    sym (ap (λ (pages : List (List ℕ)). drop 1 pages) keeps.stored ∙ pages_behind c i n (length h.complete) count)

-- ---- what a root says

pub answer_named : (x : List ℕ) (pages : List (List ℕ)) (root : List ℕ) (r : Result ℕ ChainFault) → IsPayload x → root ≡ root_of x → ChainAnswers r (answer_of root pages) → OnOk r ((pages ≡ chain x) ⊎ Collision pages (chain x))
answer_named x pages root (Ok n) payload e a = named x pages n payload (sym (ap (λ (k : List ℕ). answer_of k pages) e) ∙ a)
answer_named x pages root (Err f) payload e a = tt

answer_own_fine : (len : ℕ) (answer : Answer) (r : Result ℕ ChainFault) → answer ≡ Fine len → ChainAnswers r answer → (r ≡ Ok len) ⊎ (r ≡ Err fault.Stopped)
answer_own_fine len answer (Ok n) e a = let h : Fine n ≡ Fine len = sym a ∙ e in let k : n ≡ len = cc in inl (ap (λ (m : ℕ). Ok m) k)
answer_own_fine len answer (Err fault.Stopped) e a = inr refl
answer_own_fine len answer (Err (fault.Broken page kept found)) e a = let h : Broken (record { page = page; kept = kept; found = found }) ≡ Fine len = sym a ∙ e in cc
answer_own_fine len answer (Err fault.Shape) e a = let h : Misshapen ≡ Fine len = sym a ∙ e in cc

pub answer_own : (x : List ℕ) (pages : List (List ℕ)) (root : List ℕ) (r : Result ℕ ChainFault) → IsPayload x → root ≡ root_of x → pages ≡ chain x → ChainAnswers r (answer_of root pages) → (r ≡ Ok (length x)) ⊎ (r ≡ Err fault.Stopped)
answer_own x pages root r payload e same a =
    answer_own_fine (length x) (answer_of root pages) r (ap (λ (k : List ℕ). answer_of k pages) e ∙ ap (answer_of (root_of x)) same ∙ own x payload) a
