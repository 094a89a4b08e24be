-- Boards that endure, one step after the other.
use Rattle.std.proofs.Common.{◌≡◌, ℕ, ◌<◌, ◌≤◌, ◌⊎◌, inl, inr, ⊎_elim, true, List, length, get_or, sym, ◌∙◌, subst, arith}
use Rattle.std.specs.Prelude.{Some, slice_get}
use Rattle.std.proofs.lemmas.Option.{slice_get_within, slice_get-get_or}
use Rattle.dg_words.specs.Counts.{Rose}
use Rattle.dg_base.specs.declared.events.Event.{Event}
use Rattle.dg_base.specs.declared.events.Event.TheVariants.{Tick, Hear, Last, Reset, Inject, Order, Frame}
use Rattle.dg_nor.specs.Device.{Device, Beneath, Endures}
use Rattle.dg_nor.specs.Fuse.{beneath_of}
use Rattle.dg_nor.proofs.DeviceLemmas.{Endures_then}
use Rattle.dg_volume.specs.Stands.{Stands}
use Rattle.dg_rules.specs.Events.{mote_of}
use Rattle.dg_script.specs.Ranges.{EventInRange}
use Rattle.dg_rules.specs.World.{World, store_at}
use Rattle.dg_world.specs.Applied.{OneBoard, SameBoards}
use Rattle.dg_world.specs.Boards.{BoardsEndure, WorldStands, BoardStopped}
use Rattle.dg_world.specs.Counts.{AreSteady, AreAwake}
use Rattle.dg_world.specs.Worlds.{IsWorld}
use Rattle.dg_world.specs.declared.world.World.{World as KeptWorld}
use Rattle.dg_world.proofs.CountLemmas.{AreSteady_then}

pub rose_later : (a b c : ℕ) → a ≤ b → Rose b c → Rose a c
rose_later a b c h rose = omega (arith, h, rose)

pub rose_first : (a b c : ℕ) → b ≤ c → Rose a b → Rose a c
rose_first a b c h rose = omega (arith, h, rose)

-- a cause in two steps
pub caused_through : (a b c : Beneath) → Endures a b → b.faults ≤ c.faults → (b.stopped ≡ true) ⊎ Rose b.faults c.faults → (a.stopped ≡ true) ⊎ Rose a.faults c.faults
caused_through a b c first later cause =
    ⊎_elim
    (λ stopped. ⊎_elim (λ was. inl was) (λ rose. inr (rose_first a.faults b.faults c.faults later rose)) (first.cause stopped))
    (λ rose. inr (rose_later a.faults b.faults c.faults first.faults rose))
    cause

pub there : (xs ys : List Device) (m : ℕ) (a : Device) → length ys ≡ length xs → slice_get xs m ≡ Some a → slice_get ys m ≡ Some (get_or ys m a)
there xs ys m a count is = slice_get-get_or ys m a (omega (arith, count, slice_get_within xs m a is))

pub boards_through : (xs ys zs : List Device) → BoardsEndure xs ys → length zs ≡ length ys → ((m : ℕ) (a b : Device) → slice_get ys m ≡ Some a → slice_get zs m ≡ Some b → Endures (beneath_of a) (beneath_of b)) → BoardsEndure xs zs
boards_through xs ys zs first count second =
    record {
      count = count ∙ first.count;
      endures = λ m a c was is.
          let b = get_or ys m a in
          let mid : slice_get ys m ≡ Some b = there xs ys m a first.count was in
          Endures_then (beneath_of a) (beneath_of b) (beneath_of c) (first.endures m a b was mid) (second m b c mid is);
    }

-- boards endured, and then one of them stopped
abbrev pub board_stops : (motes board : ℕ) (initial old new : List Device) (before after : Device) → board < motes → BoardsEndure initial old → slice_get old board ≡ Some before → slice_get new board ≡ Some after → after.stopped ≡ true → before.faults ≤ after.faults → (before.stopped ≡ true) ⊎ Rose before.faults after.faults → BoardStopped motes initial new
board_stops motes board initial old new before after known all was is stopped later cause =
    record {
      board = board;
      known = known;
      before = get_or initial board before;
      after = after;
      was = there old initial board before (sym all.count) was;
      is = is;
      stopped = stopped;
      cause = caused_through (beneath_of (get_or initial board before)) (beneath_of before) (beneath_of after) (all.endures board _ before (there old initial board before (sym all.count) was) was) later cause;
    }

-- ---- after a step

pub event_within : (n : ℕ) (event : Event) → EventInRange n event → mote_of event < n
event_within n (Tick mote dt word) h = h
event_within n (Hear mote dt word frame) h = h.0
event_within n (Last from to dt word) h = h.second
event_within n (Reset mote dt word) h = h
event_within n (Inject mote image version dt word) h = h.0
event_within n (Order mote number image version dt word) h = h.0
event_within n (Frame mote dt word bytes) h = h.0

pub sites_same : (k : KeptWorld) (boards : List Device) (w z : World) → IsWorld k boards w → IsWorld k boards z → length w.sites ≡ length z.sites
sites_same k boards w z a b = a.motes ∙ sym b.motes

pub other_than : (m n k : ℕ) → n < k → k ≤ m → m ≡ n → ⊥
other_than m n k low high e = omega arith

pub stands_next : (u z : World) (v2 : KeptWorld) (mote : ℕ) (initial old new : List Device) → mote < length u.sites → length z.sites ≡ length u.sites → IsWorld v2 new z → OneBoard mote old new → AreSteady old new → WorldStands u initial old → WorldStands z initial new
stands_next u z v2 mote initial old new within count kept one calm b =
    record {
      all = boards_through initial old new b.all one.count one.endures;
      calm = AreSteady_then initial old new b.all.count b.calm calm;
      stands = λ m x inside is. (kept.sites m x inside is).stands;
      came = λ m x inside is. b.came m x (omega (arith, inside, count)) is;
      others = λ m past.
          let far : length u.sites ≤ m = omega (arith, past, count) in
          one.others m (other_than m mote (length u.sites) within far) ∙ b.others m far;
    }

-- ---- boards that are awake

pub stay_awake : (motes : ℕ) (old new : List Device) → length new ≡ length old → AreSteady old new → AreAwake motes old → AreAwake motes new
stay_awake motes old new count steady awake m d within is =
    let a : Device = get_or old m d in
    let was : slice_get old m ≡ Some a = there new old m d (sym count) is in
    (steady m a d was is).stopped ∙ awake m a within was

pub standing_awake : (w : World) (initial now : List Device) → WorldStands w initial now → AreAwake (length w.sites) now
standing_awake w initial now b = stay_awake (length w.sites) initial now b.all.count b.calm b.came

-- ---- after a read

-- boards that were only read stand for the same stores
pub chips_read : (w : World) (initial old new : List Device) → SameBoards old new → WorldStands w initial old → (m : ℕ) (d : Device) → m < length w.sites → slice_get new m ≡ Some d → Stands d.image (store_at w m)
chips_read w initial old new same b m x inside is =
    let was : slice_get old m ≡ Some (get_or old m x) = there new old m x (sym same.count) is in
    subst (λ (image : List ℕ). Stands image (store_at w m)) (sym (same.images m (get_or old m x) x was is)) (b.stands m (get_or old m x) inside was)

pub stands_read : (w : World) (initial old new : List Device) → SameBoards old new → AreSteady old new → ((m : ℕ) → length w.sites ≤ m → slice_get new m ≡ slice_get old m) → WorldStands w initial old → WorldStands w initial new
stands_read w initial old new same calm others b =
    record {
      all = boards_through initial old new b.all same.count same.endures;
      calm = AreSteady_then initial old new b.all.count b.calm calm;
      stands = chips_read w initial old new same b;
      came = b.came;
      others = λ m past. others m past ∙ b.others m past;
    }
