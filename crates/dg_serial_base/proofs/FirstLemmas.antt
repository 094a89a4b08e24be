-- A line begins after power-on.
use Rattle.std.proofs.Common.{◌≡◌, ℕ, List, [], refl, ap, sym, subst}
use Rattle.std.specs.Prelude.{map}
use Rattle.std.specs.List.{AllByRecursion}
use Rattle.dg_base.specs.Outside.{Puts}
use Rattle.dg_nor.specs.Device.{Device}
use Rattle.dg_volume.specs.Store.{Store}
use Rattle.dg_frame.specs.Spelling.{frame_of}
use Rattle.dg_frame.specs.declared.Message.{Message}
use Rattle.dg_serial.specs.Line.{flag_split, items, stuffed_line, IsOnLine}
use Rattle.dg_serial.specs.Reading.{FrameReading, reading_behind}
use Rattle.dg_serial_base.specs.BaseEvents.{Base, BaseEvent, base_events_of, powered}
use Rattle.dg_serial_base.specs.inner.Standing.{Outset, code_on_line, Stood, StreamPlayed}
use Rattle.dg_serial_base.specs.declared.running.Running.{Running}
use Rattle.dg_serial_base.proofs.WriteLemmas.{puts_nothing}

none_told : base_events_of [] ≡ []
unfolding items flag_split
none_told = refl

pub first_played : (a : Outset) (v : Running) (line : FrameReading) (new : Device) → line ≡ reading_behind [] → Stood a.base a.store [] v new.image (powered a.base a.store) → (powered a.base a.store).sent ≡ []
    → StreamPlayed a [] (code_on_line a.written v line new)
first_played a v line new l stood silent =
    let there = powered a.base a.store in
    record {
      line = l;
      went = record {
        there = there;
        stood = subst (λ (done : List BaseEvent). Stood a.base a.store done v new.image there) (sym none_told) stood;
        put = subst (λ (text : List ℕ). Puts a.written a.written text) (sym (ap (λ (sent : List Message). stuffed_line (map frame_of sent)) silent)) (puts_nothing a.written);
        fits = subst (λ (sent : List Message). AllByRecursion IsOnLine (map frame_of sent)) (sym silent) tt;
      };
    }
