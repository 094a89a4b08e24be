-- The first byte of a sector at which a condition breaks.
use Rattle.std.proofs.Common.{◌≡◌, ℕ, zero, suc, ◌+◌, ◌-◌, ◌*◌, ◌/◌, ◌^◌, ◌<◌, ◌≤◌, min, List, [], ◌∷◌, ◌++◌, length, take, drop, get_or, Option, Some, None, Result, Ok, Err, IfOk, refl, sym, ap, subst, ◌∙◌, ⊎_elim, inl, inr, arith, get_or-take}
use Rattle.std.specs.Prelude.{◌⊎◌, unwrap_or}
use Rattle.std.specs.Int.{from_be_bytes, to_be_bytes, w32}
use Rattle.std.proofs.lemmas.Bool.{cases_lt}
use Rattle.std.proofs.lemmas.List.{take_all, take_more, take-take, drop-take}
use Rattle.std.proofs.lemmas.Nat.{from_be_bytes-to_be_bytes_4}
use Rattle.dg_words.specs.Bits.{cleared_bits}
use Rattle.dg_words.specs.Cells.{part}
use Rattle.dg_words.proofs.BitsLemmas.{take-cleared_bits, same_count}
use Rattle.dg_nor.specs.declared.device.Stopped.{Stopped}
use Rattle.dg_nor.specs.Sizes.{sector_size}
use Rattle.dg_nor.specs.Chip.{sector}
use Rattle.dg_ledger.specs.Sizes.{ledger_sector, text_size, bits_size, most_count}
use Rattle.dg_ledger.specs.Ledger.{HasCount, ledger_text}
use Rattle.dg_ledger.proofs.CountLemmas.{one_more_cleared}
use Rattle.dg_control.specs.declared.snapshot.Program.{Program}
use Rattle.dg_control.specs.declared.snapshot.Program.TheVariants.{Set}
use Rattle.dg_control.specs.declared.snapshot.SlotState.{SlotState}
use Rattle.dg_control.specs.declared.snapshot.SlotState.TheVariants.{Live}
use Rattle.dg_object.specs.Sizes.{head_size, page_size, most_bytes}
use Rattle.dg_object.specs.Object.{pages_for}
use Rattle.dg_object.specs.Descriptor.{Details, IsHead, IsDescriptor, RestFits, crcs_end}
use Rattle.dg_object.proofs.HeadLemmas.{word, head_image, head_pages, head_version}
use Rattle.dg_slot.specs.Layout.{header_size, gates_at, gates_size, fewest_pages, most_pages, header_sector, page_sector, program_sector}
use Rattle.dg_slot.specs.Pages.{page_in}
use Rattle.dg_slot.specs.Header.{header_bytes, gates_of, EncodesHeader, IsHeader}
use Rattle.dg_slot.proofs.HeaderLemmas.{one_header}
use Rattle.dg_volume.specs.Sizes.{golden_version}
use Rattle.dg_breaks.specs.Breaks.{HasHeader, HoldsGolden, HoldsSet}
use Rattle.dg_breaks.specs.Bytes.{BreaksLedger, BreaksGolden, BreaksHeader, BreaksPage, BreaksDescriptor, BreaksProgram, FitTo, IsFirstBreak, AreEqual, AreFilled, AreCleared, LedgerFits, said_pages, said_crc, SpelledFits, HeaderFits, GoldenFits, front_of, said_length, HeadFits, DescriptorFits}

-- ---- bits that are cleared one after the other

pub none_clear : (bits : List ℕ) (most : ℕ) → AreCleared bits most 0
unfolding cleared_bits
none_clear bits most = (0, omega arith, refl)

pub begins_less : (bits : List ℕ) (most m n : ℕ) → m ≤ n → AreCleared bits most n → AreCleared bits most m
begins_less bits most m n h clear = (clear.0, clear.1, sym (take-take m n bits h) ∙ ap (take m) clear.2 ∙ take-cleared_bits m n clear.0 h)

pub clear_more : (bits : List ℕ) (at count n : ℕ) → at < length bits → take at bits ≡ cleared_bits at count → cleared_bits at count ++ get_or bits at 0 ∷ [] ≡ cleared_bits (at + 1) n → take (at + 1) bits ≡ cleared_bits (at + 1) n
clear_more bits at count n lt e f = take_more bits at 0 lt ∙ ap (λ (xs : List ℕ). xs ++ get_or bits at 0 ∷ []) e ∙ f

pub clear_back : (bits : List ℕ) (at count n : ℕ) → at < length bits → take at bits ≡ cleared_bits at count → take (at + 1) bits ≡ cleared_bits (at + 1) n → cleared_bits at count ++ get_or bits at 0 ∷ [] ≡ cleared_bits (at + 1) n
clear_back bits at count n lt e f = ap (λ (xs : List ℕ). xs ++ get_or bits at 0 ∷ []) (sym e) ∙ sym (take_more bits at 0 lt) ∙ f

-- at least as many are cleared as are counted
pub no_fewer : (at count c n b : ℕ) → count ≡ 8 * at → c ≤ 8 → b ≡ 255 / 2 ^ c → cleared_bits at count ++ b ∷ [] ≡ cleared_bits (at + 1) n → count + c ≤ n
no_fewer at count c n b h l f e =
    let same = same_count (at + 1) n (count + c) (sym e ∙ one_more_cleared at count c b h l f) in
    omega (arith, same, h, l)

-- all of them
pub all_clear : (bits : List ℕ) (most n : ℕ) → length bits ≡ n → AreCleared bits most n → (m : ℕ) × (m ≤ most) × (bits ≡ cleared_bits n m)
all_clear bits most n long clear = (clear.0, clear.1, sym (take_all n bits (omega (arith, long))) ∙ clear.2)

-- the first 0 bytes always agree
pub no_bits : (bits : List ℕ) → take 0 bits ≡ cleared_bits 0 0
unfolding cleared_bits
no_bits bits = refl

-- ---- the ledger

pub text_breaks : (text bits stored : List ℕ) (n : ℕ) → length text ≡ text_size → stored ≡ ledger_text → FitTo (length text) (AreEqual text stored) n → n < text_size → IsFirstBreak sector_size (LedgerFits text bits) n
text_breaks text bits stored n long e fit low = record {
  within = omega (arith, low);
  here = λ fits. fit.here (omega (arith, low, long)) (fits.spelled low ∙ ap (λ (xs : List ℕ). get_or xs n 0) (sym e));
  before = λ a lt. record {
    spelled = λ _. fit.before a lt ∙ ap (λ (xs : List ℕ). get_or xs a 0) e;
    cleared = λ k kl at. absurd (omega (arith, at, lt, low));
  };
}

bits_break : (text bits : List ℕ) (k : ℕ) → text ≡ ledger_text → k < bits_size → AreCleared bits most_count k → (AreCleared bits most_count (k + 1) → ⊥) → IsFirstBreak sector_size (LedgerFits text bits) (text_size + k)
bits_break text bits k e low before here = record {
  within = omega (arith, low);
  here = λ fits. here (fits.cleared k low refl);
  before = λ a lt. record {
    spelled = λ _. ap (λ (xs : List ℕ). get_or xs a 0) e;
    cleared = λ j jl at. begins_less bits most_count (j + 1) k (omega (arith, at, lt)) before;
  };
}

pub bits_rest : (text bits stored : List ℕ) (most k : ℕ) → most ≡ most_count → length bits ≡ bits_size → stored ≡ ledger_text → text ≡ stored → k ≤ length bits → AreCleared bits most k → (k < length bits → AreCleared bits most (k + 1) → ⊥)
    → ((n : ℕ) → text ≡ ledger_text → n ≤ most_count → bits ≡ cleared_bits bits_size n → ⊥) → IsFirstBreak sector_size (LedgerFits text bits) (text_size + k)
bits_rest text bits stored most k m long e f within before here none =
    let P : ℕ → Type 0 = λ x. AreCleared bits x k in
    let Q : ℕ → Type 0 = λ x. AreCleared bits x (k + 1) → ⊥ in
    ⊎_elim
    (λ low. bits_break text bits k (f ∙ e) low (subst P m before) (subst Q m (here (omega (arith, low, long)))))
    (λ full.
    let at : k ≡ bits_size = omega (arith, within, long, full) in
    let all = all_clear bits most_count bits_size long (subst (AreCleared bits most_count) at (subst P m before)) in
    absurd (none all.0 (f ∙ e) all.1 all.2))
    (cases_lt k bits_size)

-- ---- headers

pub head_breaks : (first gates : List ℕ) (i v n : ℕ) → FitTo header_size (SpelledFits first i v) n → n < header_size → IsFirstBreak sector_size (HeaderFits first gates i v) n
head_breaks first gates i v n fit low = record {
  within = omega (arith, low);
  here = λ fits. fit.here low (fits.head low);
  before = λ a lt. record { head = λ _. fit.before a lt; cleared = λ k kl at. absurd (omega (arith, at, lt, low)) };
}

gates_break : (first gates : List ℕ) (i v n k : ℕ) → FitTo header_size (SpelledFits first i v) n → n ≡ header_size → k < gates_size → AreCleared gates (said_pages first) k → (AreCleared gates (said_pages first) (k + 1) → ⊥)
    → IsFirstBreak sector_size (HeaderFits first gates i v) (gates_at + k)
gates_break first gates i v n k fit whole low before here = record {
  within = omega (arith, low);
  here = λ fits. here (fits.cleared k low refl);
  before = λ a lt. record {
    head = λ l. fit.before a (omega (arith, l, whole));
    cleared = λ j jl at. begins_less gates (said_pages first) (j + 1) k (omega (arith, at, lt)) before;
  };
}

pub gates_rest : (first gates : List ℕ) (i v n most k : ℕ) → FitTo header_size (SpelledFits first i v) n → n ≡ header_size → first ≡ header_bytes i v (said_pages first) (said_crc first) → fewest_pages ≤ said_pages first
    → said_pages first ≤ most_pages → said_crc first < 2 ^ 16 → most ≡ said_pages first → length gates ≡ gates_size → k ≤ length gates → AreCleared gates most k → (k < length gates → AreCleared gates most (k + 1) → ⊥)
    → ((pages crc done : ℕ) → EncodesHeader first gates i v pages crc done → ⊥) → IsFirstBreak sector_size (HeaderFits first gates i v) (gates_at + k)
unfolding gates_of
gates_rest first gates i v n most k fit whole spelled few many small m long within before here none =
    let P : ℕ → Type 0 = λ x. AreCleared gates x k in
    let Q : ℕ → Type 0 = λ x. AreCleared gates x (k + 1) → ⊥ in
    ⊎_elim
    (λ low. gates_break first gates i v n k fit whole low (subst P m before) (subst Q m (here (omega (arith, low, long)))))
    (λ full.
    let at : k ≡ gates_size = omega (arith, within, long, full) in
    let all = all_clear gates (said_pages first) gates_size long (subst (AreCleared gates (said_pages first)) at (subst P m before)) in
    absurd (none (said_pages first) (said_crc first) all.0 (record { spelled = spelled; cleared = all.2; some = few; most = many; within = all.1; crc_fits = small })))
    (cases_lt k gates_size)

-- what a header spells, byte by byte
pub spelled_fit : (first other : List ℕ) (i v n : ℕ) → length first ≡ header_size → other ≡ header_bytes i v (said_pages first) (said_crc first) → FitTo (length first) (AreEqual first other) n
    → (n ≤ 3) ⊎ ((fewest_pages ≤ said_pages first) × (said_pages first ≤ most_pages)) → FitTo header_size (SpelledFits first i v) n
spelled_fit first other i v n long e fit pages =
    let few : (a : ℕ) → a < n → a ≡ 3 → fewest_pages ≤ said_pages first = λ a lt at. ⊎_elim (λ low. absurd (omega (arith, low, lt, at))) (λ p. p.0) pages in
    let many : (a : ℕ) → a < n → a ≡ 3 → said_pages first ≤ most_pages = λ a lt at. ⊎_elim (λ low. absurd (omega (arith, low, lt, at))) (λ p. p.1) pages in
    record {
      within = omega (arith, fit.within, long);
      before = λ a lt. record { spelled = fit.before a lt ∙ ap (λ (xs : List ℕ). get_or xs a 0) e; fewest = few a lt; most = many a lt };
      here = λ low fits. fit.here (omega (arith, low, long)) (fits.spelled ∙ ap (λ (xs : List ℕ). get_or xs n 0) (sym e));
    }

pub spelled_pages : (first other : List ℕ) (i v n : ℕ) → other ≡ header_bytes i v (said_pages first) (said_crc first) → FitTo (length first) (AreEqual first other) n → 3 < n
    → ((fewest_pages ≤ said_pages first) × (said_pages first ≤ most_pages) → ⊥) → FitTo header_size (SpelledFits first i v) 3
spelled_pages first other i v n e fit far other_count = record {
  within = omega arith;
  before = λ a lt. record {
    spelled = fit.before a (omega (arith, lt, far)) ∙ ap (λ (xs : List ℕ). get_or xs a 0) e;
    fewest = λ at. absurd (omega (arith, at, lt));
    most = λ at. absurd (omega (arith, at, lt));
  };
  here = λ low fits. other_count (fits.fewest refl, fits.most refl);
}

-- ---- golden

pub golden_unlive : (slot : SlotState) (first gates : List ℕ) → (slot ≡ Live golden_version → ⊥) → IsFirstBreak sector_size (GoldenFits slot first gates) 0
golden_unlive slot first gates other = record { within = omega arith; here = λ fits. other fits.live; before = λ a lt. absurd (omega (arith, lt)) }

pub golden_head : (slot : SlotState) (first gates : List ℕ) (n : ℕ) → slot ≡ Live golden_version → FitTo header_size (SpelledFits first 0 golden_version) n → n < header_size → IsFirstBreak sector_size (GoldenFits slot first gates) n
golden_head slot first gates n live fit low = record {
  within = omega (arith, low);
  here = λ fits. fit.here low (fits.head low);
  before = λ a lt. record { live = live; head = λ _. fit.before a lt; cleared = λ k kl at. absurd (omega (arith, at, lt, low)) };
}

golden_gates : (slot : SlotState) (first gates all : List ℕ) (n k : ℕ) → slot ≡ Live golden_version → all ≡ gates_of (said_pages first) → FitTo header_size (SpelledFits first 0 golden_version) n → n ≡ header_size
    → length gates ≡ gates_size → FitTo (length gates) (AreEqual gates all) k → k < gates_size → IsFirstBreak sector_size (GoldenFits slot first gates) (gates_at + k)
golden_gates slot first gates all n k live e fit whole long equal low = record {
  within = omega (arith, low);
  here = λ fits. equal.here (omega (arith, low, long)) (fits.cleared k low refl ∙ ap (λ (xs : List ℕ). get_or xs k 0) (sym e));
  before = λ a lt. record {
    live = live;
    head = λ l. fit.before a (omega (arith, l, whole));
    cleared = λ j jl at. equal.before j (omega (arith, at, lt)) ∙ ap (λ (xs : List ℕ). get_or xs j 0) e;
  };
}

pub golden_rest : (slot : SlotState) (first gates all : List ℕ) (n k : ℕ) → slot ≡ Live golden_version → all ≡ gates_of (said_pages first) → FitTo header_size (SpelledFits first 0 golden_version) n → n ≡ header_size
    → first ≡ header_bytes 0 golden_version (said_pages first) (said_crc first) → fewest_pages ≤ said_pages first → said_pages first ≤ most_pages → said_crc first < 2 ^ 16 → length gates ≡ gates_size
    → FitTo (length gates) (AreEqual gates all) k → (k ≡ length gates → gates ≡ all) → ((pages crc : ℕ) → slot ≡ Live golden_version → EncodesHeader first gates 0 golden_version pages crc pages → ⊥)
    → IsFirstBreak sector_size (GoldenFits slot first gates) (gates_at + k)
golden_rest slot first gates all n k live e fit whole spelled few many small long equal same none = ⊎_elim
    (λ low. golden_gates slot first gates all n k live e fit whole long equal low)
    (λ full.
    let at : k ≡ length gates = omega (arith, equal.within, long, full) in
    absurd (none (said_pages first) (said_crc first) live (record { spelled = spelled; cleared = same at ∙ e; some = few; most = many; within = omega arith; crc_fits = small })))
    (cases_lt k gates_size)

-- ---- descriptors

pub fit_breaks : {size n : ℕ} {P : ℕ → Type 0} → FitTo size P n → n < size → IsFirstBreak size P n
fit_breaks fit low = record { within = low; here = fit.here low; before = fit.before }

-- the first eight bytes give the version
version_told : (head : List ℕ) (i v p : ℕ) → take 8 head ≡ front_of i v p → take 4 (drop 4 head) ≡ to_be_bytes w32 v
version_told head i v p e = sym (take-take 4 4 (drop 4 head) (omega arith)) ∙ ap (take 4) (sym (drop-take 4 4 head)) ∙ ap (λ (xs : List ℕ). take 4 (drop 4 xs)) e

pub head_is : (head : List ℕ) (i v : ℕ) (o : Option ℕ) (d : Details) → v < 2 ^ 32 → take 8 head ≡ front_of i v (unwrap_or o (get_or head 3 0)) → IsHead head d
    → (e : Details) × IsHead head e × (e.image ≡ i) × (e.version ≡ v) × (e.pages ≡ unwrap_or o (get_or head 3 0))
head_is head i v o d small e is =
    let p = unwrap_or o (get_or head 3 0) in
    let at : (k : ℕ) → k < 8 → get_or head k 0 ≡ get_or (front_of i v p) k 0 = λ k low. sym (get_or-take 8 head k 0 low) ∙ ap (λ (xs : List ℕ). get_or xs k 0) e in
    (d, is, sym (head_image is) ∙ at 2 (omega arith), sym (head_version is) ∙ ap (from_be_bytes w32) (version_told head i v p e) ∙ from_be_bytes-to_be_bytes_4 v small, sym (head_pages is) ∙ at 3 (omega arith))

-- the fields before this byte fit
pub head_fit : (head : List ℕ) (i v : ℕ) (o : Option ℕ) (n : ℕ) → take 8 head ≡ front_of i v (unwrap_or o (get_or head 3 0)) → n ≤ head_size
    → (8 < n → (1 ≤ said_length head) × (said_length head ≤ most_bytes) × (get_or head 3 0 ≡ pages_for (said_length head))) → (12 < n → (d : Details) × IsHead head d) → (n < head_size → HeadFits head i v o n → ⊥)
    → FitTo head_size (HeadFits head i v o) n
head_fit head i v o n front within counted named here = record {
  within = within;
  before = λ a lt. record {
    front = λ low. sym (get_or-take 8 head a 0 low) ∙ ap (λ (xs : List ℕ). get_or xs a 0) front;
    some = λ at. (counted (omega (arith, at, lt))).0;
    most = λ at. (counted (omega (arith, at, lt))).1;
    count = λ at. (counted (omega (arith, at, lt))).2;
    name = λ at. named (omega (arith, at, lt));
  };
  here = here;
}

-- a byte of the first eight does not fit
pub front_fit : (head one front : List ℕ) (i v : ℕ) (o : Option ℕ) (n : ℕ) → one ≡ take 8 head → length one ≡ 8 → front ≡ front_of i v (unwrap_or o (get_or head 3 0)) → FitTo (length one) (AreEqual one front) n → n < 8
    → FitTo head_size (HeadFits head i v o) n
front_fit head one front i v o n part_is long e fit low =
    let at : (a : ℕ) → a < 8 → get_or one a 0 ≡ get_or head a 0 = λ a lt. ap (λ (xs : List ℕ). get_or xs a 0) part_is ∙ get_or-take 8 head a 0 lt in
    record {
      within = omega (arith, low);
      before = λ a lt. record {
        front = λ l. sym (at a l) ∙ fit.before a lt ∙ ap (λ (xs : List ℕ). get_or xs a 0) e;
        some = λ eq. absurd (omega (arith, eq, lt, low));
        most = λ eq. absurd (omega (arith, eq, lt, low));
        count = λ eq. absurd (omega (arith, eq, lt, low));
        name = λ eq. absurd (omega (arith, eq, lt, low));
      };
      here = λ lt fits. fit.here (omega (arith, low, long)) (at n low ∙ fits.front low ∙ ap (λ (xs : List ℕ). get_or xs n 0) (sym e));
    }

pub page_head_fit : (page head : List ℕ) (i v : ℕ) (o : Option ℕ) (n : ℕ) → head ≡ take head_size page → FitTo head_size (HeadFits head i v o) n → n < head_size → FitTo page_size (DescriptorFits page i v o) n
page_head_fit page head i v o n e fit low =
    let P : List ℕ → Type 0 = λ x. FitTo head_size (HeadFits x i v o) n in
    let all = subst P e fit in
    record {
      within = omega (arith, low);
      before = λ a lt. record { head = λ _. all.before a lt; rest = λ le. absurd (omega (arith, le, lt, low)) };
      here = λ lt fits. all.here low (fits.head low);
    }

pub page_fit : (page head : List ℕ) (i v : ℕ) (o : Option ℕ) (n from k : ℕ) → head ≡ take head_size page → FitTo head_size (HeadFits head i v o) n → n ≡ head_size → from ≡ crcs_end (get_or page 3 0) → k ≤ page_size
    → ((a : ℕ) → a < k → AreFilled page from a) → (k < page_size → AreFilled page from k → ⊥) → FitTo page_size (DescriptorFits page i v o) k
page_fit page head i v o n from k e fit whole f within before here =
    let P : List ℕ → Type 0 = λ x. FitTo head_size (HeadFits x i v o) n in
    let all = subst P e fit in
    record {
      within = within;
      before = λ a lt. record { head = λ low. all.before a (omega (arith, low, whole)); rest = subst (λ (x : ℕ). AreFilled page x a) f (before a lt) };
      here = λ lt fits. here lt (subst (λ (x : ℕ). AreFilled page x k) (sym f) fits.rest);
    }

less_zero : (m a : ℕ) → m ≤ 0 + a → m ≤ a
less_zero m a h = omega (arith, h)

pub page_whole : (page head : List ℕ) (i v : ℕ) (o : Option ℕ) (from k : ℕ) → head ≡ take head_size page → ((d : Details) × IsHead head d × (d.image ≡ i) × (d.version ≡ v) × (d.pages ≡ unwrap_or o (get_or head 3 0))) → length page ≡ page_size
    → from ≡ crcs_end (get_or page 3 0) → ((a : ℕ) → a < k → AreFilled page from a) → k ≡ page_size → (d : Details) × IsDescriptor page d × (d.image ≡ i) × (d.version ≡ v) × (d.pages ≡ unwrap_or o (get_or page 3 0))
page_whole page head i v o from k e told long f before whole =
    let d = told.0 in
    let third : get_or head 3 0 ≡ get_or page 3 0 = ap (λ (xs : List ℕ). get_or xs 3 0) e ∙ get_or-take head_size page 3 0 (omega arith) in
    let pages : d.pages ≡ get_or page 3 0 = sym (head_pages told.1) ∙ third in
    let is : IsHead (take head_size page) d = subst (λ (x : List ℕ). IsHead x d) e told.1 in
    let rest : RestFits d.pages 0 page = λ a low le.
    before a (omega (arith, low, whole, long)) (subst (λ (x : ℕ). x ≤ a) (ap crcs_end pages ∙ sym f) (less_zero (crcs_end d.pages) a le)) in
    (d, record { head = is; rest = rest }, told.2, told.3, told.4 ∙ ap (unwrap_or o) third)

-- ---- as they stand on a chip

pub ledger_at : (c d text bits : List ℕ) (b : ℕ) → text ≡ part (sector c ledger_sector) 0 text_size → bits ≡ part (sector d ledger_sector) text_size bits_size → d ≡ c → IsFirstBreak sector_size (LedgerFits text bits) b
    → BreaksLedger (sector c ledger_sector) b
ledger_at c d text bits b e f same h =
    let g : bits ≡ part (sector c ledger_sector) text_size bits_size = f ∙ ap (λ (x : List ℕ). part (sector x ledger_sector) text_size bits_size) same in
    subst (λ (t : List ℕ). IsFirstBreak sector_size (LedgerFits t (part (sector c ledger_sector) text_size bits_size)) b) e (subst (λ (t : List ℕ). IsFirstBreak sector_size (LedgerFits text t) b) g h)

pub no_ledger : (c d text bits : List ℕ) → text ≡ part (sector c ledger_sector) 0 text_size → bits ≡ part (sector d ledger_sector) text_size bits_size → d ≡ c → ((n : ℕ) → HasCount c n → ⊥)
    → (n : ℕ) → text ≡ ledger_text → n ≤ most_count → bits ≡ cleared_bits bits_size n → ⊥
no_ledger c d text bits e f same none n t most b =
    let g : bits ≡ part (sector c ledger_sector) text_size bits_size = f ∙ ap (λ (x : List ℕ). part (sector x ledger_sector) text_size bits_size) same in
    none n (record { text = sym e ∙ t; bits = sym g ∙ b; most = most })

heads_at : (first gates xs ys : List ℕ) (i v pages crc done : ℕ) → first ≡ xs → gates ≡ ys → EncodesHeader first gates i v pages crc done → EncodesHeader xs ys i v pages crc done
heads_at first gates xs ys i v pages crc done e f h = subst (λ (x : List ℕ). EncodesHeader x ys i v pages crc done) e (subst (λ (y : List ℕ). EncodesHeader first y i v pages crc done) f h)

pub no_header : (c first gates : List ℕ) (i v : ℕ) → first ≡ part (sector c (header_sector i)) 0 header_size → gates ≡ part (sector c (header_sector i)) gates_at gates_size → (HasHeader c i v → ⊥)
    → (pages crc done : ℕ) → EncodesHeader first gates i v pages crc done → ⊥
no_header c first gates i v e f none pages crc done h = none (pages, crc, done, heads_at first gates _ _ i v pages crc done e f h)

pub no_golden : (c first gates : List ℕ) (slot : SlotState) → first ≡ part (sector c (header_sector 0)) 0 header_size → gates ≡ part (sector c (header_sector 0)) gates_at gates_size → (HoldsGolden c slot → ⊥)
    → (pages crc : ℕ) → slot ≡ Live golden_version → EncodesHeader first gates 0 golden_version pages crc pages → ⊥
no_golden c first gates slot e f none pages crc live h = none (live, (pages, crc, heads_at first gates _ _ 0 golden_version pages crc pages e f h))

pub golden_at : (c first gates : List ℕ) (slot : SlotState) (b : ℕ) → first ≡ part (sector c (header_sector 0)) 0 header_size → gates ≡ part (sector c (header_sector 0)) gates_at gates_size
    → IsFirstBreak sector_size (GoldenFits slot first gates) b → BreaksGolden c slot b
golden_at c first gates slot b e f h =
    subst (λ (x : List ℕ). IsFirstBreak sector_size (GoldenFits slot x (part (sector c (header_sector 0)) gates_at gates_size)) b) e (subst (λ (y : List ℕ). IsFirstBreak sector_size (GoldenFits slot first y) b) f h)

pub header_at : (c first gates : List ℕ) (i v : ℕ) (slot : SlotState) (b : ℕ) → slot ≡ Live v → first ≡ part (sector c (header_sector i)) 0 header_size → gates ≡ part (sector c (header_sector i)) gates_at gates_size
    → IsFirstBreak sector_size (HeaderFits first gates i v) b → BreaksHeader c i slot b
header_at c first gates i v slot b live e f h =
    subst (λ (x : SlotState). BreaksHeader c i x b) (sym live)
    (subst (λ (x : List ℕ). IsFirstBreak sector_size (HeaderFits x (part (sector c (header_sector i)) gates_at gates_size) i v) b) e (subst (λ (y : List ℕ). IsFirstBreak sector_size (HeaderFits first y i v) b) f h))

pub page_breaks : (page cells : List ℕ) (i v pages n : ℕ) → page ≡ cells → FitTo page_size (DescriptorFits page i v (Some pages)) n → n < page_size → BreaksPage cells i v pages n
page_breaks page cells i v pages n e fit low = subst (λ (x : List ℕ). BreaksPage x i v pages n) e (inl (fit_breaks fit low))

pub page_described : (page cells : List ℕ) (i v pages : ℕ) → page ≡ cells → ((d : Details) × IsDescriptor page d × (d.image ≡ i) × (d.version ≡ v) × (d.pages ≡ pages)) → BreaksPage cells i v pages 0
page_described page cells i v pages e is = subst (λ (x : List ℕ). BreaksPage x i v pages 0) e (inr (is, refl))

pub program_at : (page c : List ℕ) (i v n : ℕ) (set : Program) → set ≡ Set i v → page ≡ page_in c (program_sector 0) → FitTo page_size (DescriptorFits page i v None) n → n < page_size → BreaksProgram c set n
program_at page c i v n set is e fit low =
    subst (λ (x : Program). BreaksProgram c x n) (sym is) (subst (λ (x : List ℕ). IsFirstBreak page_size (DescriptorFits x i v None) n) e (fit_breaks fit low))

pub program_whole : (page c : List ℕ) (i v : ℕ) (set : Program) → set ≡ Set i v → page ≡ page_in c (program_sector 0) → (HoldsSet c set → ⊥) → ((d : Details) × IsDescriptor page d × (d.image ≡ i) × (d.version ≡ v) × (d.pages ≡ get_or page 3 0)) → ⊥
program_whole page c i v set is e none told =
    none (subst (HoldsSet c) (sym is) (told.0, subst (λ (x : List ℕ). IsDescriptor x told.0) e told.1, told.2, told.3))

pub descriptor_at : (c d : List ℕ) (i v pages crc done : ℕ) (slot : SlotState) (r : Result ℕ Stopped) → slot ≡ Live v → d ≡ c → IsHeader (sector c (header_sector i)) i v pages crc done → IfOk r (BreaksPage (page_in d (page_sector i 0)) i v pages)
    → IfOk r (BreaksDescriptor c i slot)
descriptor_at c d i v pages crc done slot (Err e) live same header breaks = tt
descriptor_at c d i v pages crc done slot (Ok y) live same header breaks =
    let cells = sector c (header_sector i) in
    subst (λ (x : SlotState). BreaksDescriptor c i x y) (sym live) (λ p k n other.
    let one = one_header (part cells 0 header_size) (part cells gates_at gates_size) i v pages crc done p k n header other in
    subst (λ (m : ℕ). BreaksPage (page_in c (page_sector i 0)) i v m y) one.pages (subst (λ (x : List ℕ). BreaksPage (page_in x (page_sector i 0)) i v pages y) same breaks))
