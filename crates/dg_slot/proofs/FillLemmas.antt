-- A page that is put packet by packet, from the first one on.
use Rattle.std.proofs.Common.{◌≡◌, ℕ, zero, suc, ◌+◌, ◌-◌, ◌*◌, ◌<◌, ◌≤◌, Option, Some, List, length, drop, get_or, refl, sym, ap, ◌∙◌, subst, ⊎_elim, arith}
use Rattle.std.specs.Prelude.{⊤}
use Rattle.std.proofs.lemmas.Bool.{cases_eq}
use Rattle.std.proofs.lemmas.List.{get_or-set_same, get_or-set_other, same_lists}
use Rattle.dg_words.specs.Cells.{part, AreBytes}
use Rattle.dg_words.proofs.ByteLemmas.{AreBytes-take, AreBytes-drop}
use Rattle.dg_words.proofs.ListLemmas.{length-tabulate, get_or-tabulate}
use Rattle.dg_nor.specs.Device.{Device, Ran, Halts, Halted}
use Rattle.dg_nor.proofs.DeviceLemmas.{Halted_first, Halted_second, Halted_once}
use Rattle.dg_slot.specs.Layout.{packets, packet_size}
use Rattle.dg_slot.specs.Jobs.{Packets, no_packets, put_packet, packets_of}
use Rattle.dg_slot.proofs.JobLemmas.{count_none, count_put}

abbrev pub packet_of : List ℕ → ℕ → List ℕ
packet_of page q = part page (packet_size * q) packet_size

pub AreBytes-packet : (page : List ℕ) (q : ℕ) → AreBytes page → AreBytes (packet_of page q)
unfolding part
AreBytes-packet page q h = AreBytes-take packet_size (drop (packet_size * q) page) (AreBytes-drop (packet_size * q) page h)

-- the first n packets of a page are put
unfoldable pub first_packets : List ℕ → ℕ → Packets
first_packets page zero = no_packets
first_packets page (suc n) = put_packet (first_packets page n) n (packet_of page n)

pub first_none : (page : List ℕ) → no_packets ≡ first_packets page 0
unfolding first_packets
first_none page = refl

pub first_more : (page : List ℕ) (n : ℕ) → put_packet (first_packets page n) n (packet_of page n) ≡ first_packets page (n + 1)
unfolding first_packets
first_more page n = let e : suc n ≡ n + 1 = omega arith in ap (first_packets page) e

count_first : (page : List ℕ) (n : ℕ) → length (first_packets page n) ≡ packets
unfolding first_packets
count_first page zero = count_none
count_first page (suc n) = count_put (first_packets page n) n (packet_of page n) (count_first page n)

packet_first : (page : List ℕ) (n q : ℕ) (d : Option (List ℕ)) → n ≤ packets → q < n → get_or (first_packets page n) q d ≡ Some (packet_of page q)
unfolding first_packets
packet_first page zero q d known h = absurd (omega arith)
packet_first page (suc n) q d known h =
    let some : n < length (first_packets page n) = omega (arith, count_first page n, known) in
    ⊎_elim
    (λ same. ap (λ (k : ℕ). get_or (put_packet (first_packets page n) n (packet_of page n)) k d) same ∙ get_or-set_same (first_packets page n) n (Some (packet_of page n)) d some
    ∙ ap (λ (k : ℕ). Some (packet_of page k)) (sym same))
    (λ other. get_or-set_other (first_packets page n) n q (Some (packet_of page n)) d other ∙ packet_first page n q d (omega arith) (omega arith))
    (cases_eq q n)

-- all packets are those of the page
pub first_all : (page : List ℕ) → first_packets page packets ≡ packets_of page
first_all page =
    let put : ℕ → Option (List ℕ) = λ q. Some (packet_of page q) in
    same_lists (first_packets page packets) (packets_of page) (count_first page packets ∙ sym (length-tabulate packets put))
    (λ k d l.
    let known : k < packets = omega (arith, l, count_first page packets) in
    packet_first page packets k d (omega arith) known ∙ sym (get_or-tabulate packets k put d known))

-- m packets were put, and the next one stopped
pub halted_among : (m total : ℕ) (a b c : Device) → m + 1 ≤ total → Ran m a b → Halts 1 0 b c → Halted total (λ _ _. ⊤) a c
halted_among m total a b c fits ran h =
    let e : m + 1 + (total - (m + 1)) ≡ total = omega arith in
    let one : Halted 1 (λ _ _. ⊤) b c = Halted_once (λ _ _. ⊤) h tt in
    subst (λ (k : ℕ). Halted k (λ _ _. ⊤) a c) e (Halted_first {may = λ _ _. ⊤} (total - (m + 1)) (Halted_second {may = λ _ _. ⊤} (λ _ _. ⊤) ran (λ k l x. tt) one))
