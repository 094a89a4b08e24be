-- What is kept if a store agrees with a table.
use Rattle.std.proofs.Common.{◌≡◌, ℕ, suc, ◌<◌, ◌≤◌, List, [], ◌∷◌, ◌++◌, length, take, drop, get_or, Option, Some, None, IfSome, refl, sym, ap, subst, ◌∙◌, arith}
use Rattle.std.proofs.lemmas.List.{length-take, take-append-drop}
use Rattle.std.proofs.lemmas.Option.{same_Some}
use Rattle.std.proofs.Math.Seq.{drop-cons}
use Rattle.dg_object.specs.Object.{Row, object, profile}
use Rattle.dg_slot.specs.Kept.{Held}
use Rattle.dg_volume.specs.Store.{Store, held, held_to}
use Rattle.dg_volume.specs.Changes.{paged}
use Rattle.dg_volume.specs.Table.{row_at}
use Rattle.dg_volume.specs.Agreement.{KeepsRow, Agrees}
use Rattle.dg_volume.specs.Ends.{KeepsPagesOf}
use Rattle.dg_volume.proofs.AgreeLemmas.{paged_agrees}
use Rattle.dg_volume.proofs.RowLemmas.{length-held_to}

pub same_held : (h k : Held) → h.version ≡ k.version → h.pages ≡ k.pages → h.crc ≡ k.crc → h.complete ≡ k.complete → h ≡ k
same_held h k a b c d =
    ap (λ (x : ℕ). record { version = x; pages = h.pages; crc = h.crc; complete = h.complete }) a
    ∙ ap (λ (x : ℕ). record { version = k.version; pages = x; crc = h.crc; complete = h.complete }) b
    ∙ ap (λ (x : ℕ). record { version = k.version; pages = k.pages; crc = x; complete = h.complete }) c
    ∙ ap (λ (x : List (List ℕ)). record { version = k.version; pages = k.pages; crc = k.crc; complete = x }) d

pub held_is : (row : Row) (h : Held) → h.version ≡ row.version → h.pages ≡ (profile row).pages → h.crc ≡ (profile row).crc → h.complete ≡ take (length h.complete) (object row)
    → (n : ℕ) × (n ≤ length (object row)) × (h ≡ held_to row n)
held_is row h version pages crc first =
    let n = length h.complete in
    let within : n ≤ length (object row) = omega (arith, ap length first, length-take n (object row)) in
    (n, within, same_held h (held_to row n) version pages crc first)

pages_by : (table : List Row) (row : Row) (o : Option Held) → row_at table row.image row.version ≡ Some row → IfSome o (KeepsRow table row.image) → IfSome o (KeepsPagesOf row)
pages_by table row None in_table keeps = tt
pages_by table row (Some h) in_table keeps = λ version.
    let same : keeps.row ≡ row = same_Some keeps.row row (sym keeps.in_table ∙ ap (row_at table row.image) version ∙ in_table) in
    held_is row h version (keeps.pages ∙ ap (λ r. (profile r).pages) same) (keeps.crc ∙ ap (λ r. (profile r).crc) same) (keeps.first ∙ ap (λ r. take (length h.complete) (object r)) same)

pub agreed_pages : (table : List Row) (s : Store) (row : Row) → row_at table row.image row.version ≡ Some row → Agrees table s → IfSome (held s row.image) (KeepsPagesOf row)
agreed_pages table s row in_table a = pages_by table row (held s row.image) in_table (a.kept row.image)

pub agreed_next : (table : List Row) (s : Store) (row : Row) (n : ℕ) → 1 ≤ row.image → row.image < length s.kept → row_at table row.image row.version ≡ Some row → held s row.image ≡ Some (held_to row n) → n < length (object row)
    → Agrees table s → Agrees table (paged row.image (get_or (object row) n []) s)
agreed_next table s row n low within in_table here h a =
    let page = get_or (object row) n [] in
    let rest = drop (suc n) (object row) in
    let split : take n (object row) ++ page ∷ rest ≡ object row = ap (λ (xs : List (List ℕ)). take n (object row) ++ xs) (sym (drop-cons (object row) n [] h)) ∙ take-append-drop n (object row) in
    paged_agrees table s row (held_to row n) page rest low within in_table (record { here = here; version = refl; count = refl; crc = refl; split = split }) a

pub agreed_page : (table : List Row) (s : Store) (row : Row) (h : Held) → 1 ≤ row.image → row.image < length s.kept → row_at table row.image row.version ≡ Some row → held s row.image ≡ Some h → h.version ≡ row.version → length h.complete < length (object row)
    → Agrees table s → Agrees table (paged row.image (get_or (object row) (length h.complete) []) s)
agreed_page table s row h low within in_table here version more a =
    let pages = (subst (λ (o : Option Held). IfSome o (KeepsPagesOf row)) here (agreed_pages table s row in_table a)) version in
    let n = pages.0 in
    let count : length h.complete ≡ n = ap (λ (k : Held). length k.complete) pages.2 ∙ length-held_to row n pages.1 in
    subst (λ (k : ℕ). Agrees table (paged row.image (get_or (object row) k []) s)) (sym count)
    (agreed_next table s row n low within in_table (here ∙ ap Some pages.2) (omega (arith, more, count)) a)
