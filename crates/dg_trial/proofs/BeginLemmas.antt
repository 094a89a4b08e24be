-- The world in which a trial begins, over boards that were formatted.
use Rattle.std.proofs.Common.{lit<, lit≤, ◌*◌, true, false, append-nil, append_assoc, ◌≡◌, ℕ, zero, suc, ◌+◌, ◌-◌, ◌<◌, ◌≤◌, List, [], ◌∷◌, ◌++◌, length, map, replicate, take, refl, ap, sym, subst, ◌∙◌, arith}
use Rattle.std.proofs.lemmas.List.{length-map, length-replicate, get_or-replicate}
use Rattle.std.proofs.Math.Seq.{take-length}
use Rattle.dg_words.proofs.ListLemmas.{length-tabulate}
use Rattle.dg_object.specs.Object.{row_of}
use Rattle.dg_script.specs.Contents.{generated, generated_byte}
use Rattle.dg_script.specs.Places.{none_narrow}
use Rattle.dg_trial.specs.inner.Words.{size_by}
use Rattle.dg_trial.specs.inner.Words.{row_by}
use Rattle.std.specs.Prelude.{Some, slice_get, slice_index_or, codes, Result, Ok, Err}
use Rattle.dg_end.specs.declared.ends.End.{End}
use Rattle.dg_end.specs.declared.ends.End.TheVariants as ends
use Rattle.rand_pcg.specs.Lcg.{Lcg}
use Rattle.dg_words.specs.Cells.{AreBytes}
use Rattle.dg_nor.specs.Device.{Device}
use Rattle.dg_rounds.specs.Rounds.{times, sweep}
use Rattle.dg_rules.specs.Golden.{SiteKeepsGolden, WorldKeepsGolden}
use Rattle.dg_object.specs.Object.{Row, IsRow}
use Rattle.dg_volume.specs.Store.{Store}
use Rattle.dg_volume.specs.Stands.{Stands}
use Rattle.dg_volume.specs.Table.{row_at}
use Rattle.dg_script.specs.declared.fault.LineFault.{LineFault}
use Rattle.dg_rules.specs.Changes.{is_taken}
use Rattle.dg_rules.specs.Steps.{declared_as}
use Rattle.dg_trial.proofs.ScheduleLemmas.{line_at, line_none}
use Rattle.dg_rules.specs.World.{World, Site, first_world, off_site, no_site}
use Rattle.dg_world.specs.Worlds.{IsWorld}
use Rattle.dg_world.specs.declared.world.World.{World as KeptWorld}
use Rattle.dg_world.specs.Boards.{WorldStands}
use Rattle.dg_trial.specs.Playing.{golden, chip, first, MayPlayParts}
use Rattle.dg_trial.specs.Schedule.{always, line_links, resets, opening, disturbances}
use Rattle.dg_trial.proofs.FitLemmas.{few_events, schedule_fits}
use Rattle.dg_trial.specs.Trials.{Formatted}

pub length_first : (motes : ℕ) (row : Row) → length (first motes row).sites ≡ motes
length_first motes row = length-map (replicate motes chip) off_site ∙ length-replicate motes chip

-- golden is kept whole
pub golden_is : IsRow golden
golden_is =
    record {
      image = lit< tt;
      version = lit≤ tt;
      version_fits = lit< tt;
      name = refl;
      some = lit≤ tt;
      fits = lit≤ tt;
      bytes = byte;
    }
  where
    byte : AreBytes golden.bytes
    byte zero = lit< tt
    byte (suc k) = lit< tt

pub site_first : (n m : ℕ) → m < n → slice_index_or (map off_site (replicate n chip)) m no_site ≡ off_site chip
site_first zero m h = absurd (omega arith)
site_first (suc n) zero h = refl
site_first (suc n) (suc m) h = site_first n m (omega arith)

-- the boards that were formatted stand for it
pub first_stands : (motes : ℕ) (row : Row) (old new : List Device) → Formatted motes old new → WorldStands (first motes row) old new
first_stands motes row old new f =
    let many = length_first motes row in
    record {
      all = record { count = f.boards.count; endures = f.boards.endures };
      calm = f.calm;
      stands = λ m d within at.
          let low : m < motes = omega (arith, many, within) in
          subst (λ (x : Site). Stands d.image x.store) (sym (site_first motes m low)) (f.stands m d low at);
      came = λ m d within at. f.awake m d (omega (arith, many, within)) at;
      others = λ m past. f.boards.others m (omega (arith, many, past));
    }

keeps_golden : SiteKeepsGolden (off_site chip)
keeps_golden = record { kept = record { row = golden; is_row = golden_is; whole = refl }; asks = tt }

pub first_keeps : (motes : ℕ) (row : Row) → WorldKeepsGolden (first motes row)
first_keeps motes row m within =
    let low : m < motes = let e = length_first motes row in omega (arith, e, within) in
    subst (λ (x : Site). SiteKeepsGolden x) (sym (site_first motes m low)) keeps_golden

-- the schedule may be played from there
pub first_may : (motes sweeps : ℕ) (row : Row) (g : Lcg) → 2 ≤ motes → motes ≤ 16 → sweeps ≤ 79
    → MayPlayParts motes (first motes row) (opening motes ++ (disturbances motes (100 * motes) g ++ map always (resets motes ++ times sweeps (sweep (line_links motes)))))
first_may motes sweeps row g some few s =
    record {
      keeps = first_keeps motes row;
      count = length_first motes row;
      few = let e = few_events motes sweeps g some few s in omega (arith, e);
      sent = lit≤ tt;
      fits = schedule_fits motes (100 * motes) sweeps g some;
    }

-- ---- how it is made

pub line_begun : (items : List (ℕ × ℕ)) (motes far : ℕ) → items ≡ [] → 1 ≤ motes → far ≡ motes - 1 → items ++ line_links (far + 1) ≡ line_links motes
line_begun items motes far none some e =
    let n : far + 1 ≡ motes = omega (arith, e, some) in
    ap (λ (ls : List (ℕ × ℕ)). ls ++ line_links (far + 1)) none ∙ ap line_links n

pub line_more : (items more : List (ℕ × ℕ)) (motes far next : ℕ) → more ≡ items ++ (far - 1, far) ∷ [] → 0 < far → next ≡ far - 1 → items ++ line_links (far + 1) ≡ line_links motes → more ++ line_links (next + 1) ≡ line_links motes
line_more items more motes far next e some n h =
    let k : next + 1 ≡ far = omega (arith, n, some) in
    ap (λ (ls : List (ℕ × ℕ)). ls ++ line_links (next + 1)) e ∙ ap (λ (m : ℕ). (items ++ (far - 1, far) ∷ []) ++ line_links m) k ∙ append_assoc items ((far - 1, far) ∷ []) (line_links far)
    ∙ ap (λ (ls : List (ℕ × ℕ)). items ++ ls) (sym (line_at far some)) ∙ h

pub line_done : (items : List (ℕ × ℕ)) (motes far : ℕ) → far ≤ 0 → items ++ line_links (far + 1) ≡ line_links motes → items ≡ line_links motes
line_done items motes far end h =
    let e : far + 1 ≡ 1 = omega (arith, end) in
    sym (append-nil items) ∙ ap (λ (ls : List (ℕ × ℕ)). items ++ ls) (sym (ap line_links e ∙ line_none)) ∙ h

-- one row is declared
pub declared_first : (w : World) (row : Row) → w.declared ≡ [] → declared_as (row_at w.declared row.image row.version) w row ≡ record w { declared = row ∷ [] }
declared_first w row e =
    ap (λ (rows : List Row). declared_as (row_at rows row.image row.version) w row) e ∙ ap (λ (rows : List Row). record w { declared = rows ++ row ∷ [] }) e

pub not_taken : (w : World) (row : Row) → w.declared ≡ [] → is_taken (row_at w.declared row.image row.version) row ≡ true → ⊥
not_taken w row e taken =
    let free : is_taken (row_at w.declared row.image row.version) row ≡ false = ap (λ (rows : List Row). is_taken (row_at rows row.image row.version) row) e in
    cc

-- an answer of one type that memory ran out is that of another
pub out_of_memory : {A B : Type 0} (e : End) → ◌≡◌ {A = Result A End} (Err e) (Err ends.Memory) → ◌≡◌ {A = Result B End} (Err e) (Err ends.Memory)
out_of_memory {A = A} {B = B} e is =
    let same : e ≡ ends.Memory = cc in
    let to : End → Result B End = λ x. Err x in
    ap to same

pub content_is : (content made : List ℕ) → ◌≡◌ {A = Result (List ℕ) LineFault} (Ok made) (Ok content) → content ≡ made
content_is content made e = cc

-- an image has at most 64 pages of bytes
size_fits : (pages word : ℕ) → 2 ≤ pages → pages ≤ 65 → size_by pages word ≤ 70656
size_fits pages word some few = omega arith

pub content_fits : (content : List ℕ) (pages seed word : ℕ) → 2 ≤ pages → pages ≤ 65 → content ≡ generated (size_by pages word) seed → length content ≤ 1048576
unfolding generated
content_fits content pages seed word some few e =
    let h : length content ≡ size_by pages word = ap length e ∙ length-tabulate (size_by pages word) (generated_byte seed) in
    let low = size_fits pages word some few in
    omega (arith, h, low)

pub row_is : (name content : List ℕ) (pages seed word : ℕ) → name ≡ codes "trial" → content ≡ generated (size_by pages word) seed → row_of 1 1 name content ≡ row_by pages seed word
row_is name content pages seed word named is = ap (λ (x : List ℕ). row_of 1 1 x content) named ∙ ap (λ (b : List ℕ). row_of 1 1 (codes "trial") b) is

-- links are made one after the other
pub linked_first : (motes : ℕ) (v : KeptWorld) → ((boards : List Device) (stores : List Store) (table : List Row) → length stores ≡ motes → motes ≤ length boards
    → ((m : ℕ) (d : Device) → m < motes → slice_get boards m ≡ Some d → Stands d.image (slice_index_or stores m no_site.store)) → IsWorld v boards (first_world table [] none_narrow stores))
    → (boards : List Device) → motes ≤ length boards → ((m : ℕ) (d : Device) → m < motes → slice_get boards m ≡ Some d → Stands d.image chip) → IsWorld v boards (first_world (golden ∷ []) [] none_narrow (replicate motes chip))
linked_first motes v trial_start boards enough stands =
    trial_start boards (replicate motes chip) (golden ∷ []) (length-replicate motes chip) enough
    (λ m d within is. subst (λ (x : Store). Stands d.image x) (sym (get_or-replicate motes m chip no_site.store within)) (stands m d within is))

pub links_more : (motes i : ℕ) (v : KeptWorld) (boards : List Device) (links : List (ℕ × ℕ)) (l : ℕ × ℕ) → take (i + 1) links ≡ take i links ++ l ∷ []
    → IsWorld v boards (first_world (golden ∷ []) (take i links ++ l ∷ []) none_narrow (replicate motes chip)) → IsWorld v boards (first_world (golden ∷ []) (take (i + 1) links) none_narrow (replicate motes chip))
links_more motes i v boards links l e is = subst (λ (ls : List (ℕ × ℕ)). IsWorld v boards (first_world (golden ∷ []) ls none_narrow (replicate motes chip))) (sym e) is

pub links_all : (motes i : ℕ) (v : KeptWorld) (boards : List Device) (links : List (ℕ × ℕ)) → length links ≤ i → i ≤ length links
    → IsWorld v boards (first_world (golden ∷ []) (take i links) none_narrow (replicate motes chip)) → IsWorld v boards (first_world (golden ∷ []) links none_narrow (replicate motes chip))
links_all motes i v boards links low high is =
    let e : i ≡ length links = omega arith in
    subst (λ (ls : List (ℕ × ℕ)). IsWorld v boards (first_world (golden ∷ []) ls none_narrow (replicate motes chip))) (ap (λ (n : ℕ). take n links) e ∙ take-length links) is
