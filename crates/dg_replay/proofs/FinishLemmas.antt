-- The end of a report, for which the boards are read.
use Rattle.std.proofs.Common.{◌≡◌, ℕ, ◌<◌, ◌≤◌, inl, List, [], length, ◌∙◌, subst, arith}
use Rattle.std.specs.Prelude.{Option, Some, slice_get}
use Rattle.dg_nor.specs.Device.{Device}
use Rattle.dg_base.specs.declared.answers.Status.{Status}
use Rattle.dg_base.specs.declared.answers.Status.TheVariants as status
use Rattle.dg_script.specs.Report.{report_text}
use Rattle.dg_script.specs.declared.report.Report.{Report}
use Rattle.dg_rules.specs.Changes.{final_lines}
use Rattle.dg_replay.specs.Replaying.{EndsWith, FinishesWith}
use Rattle.dg_rules.specs.World.{World}
use Rattle.dg_world.specs.Applied.{SameBoards, ReadFlash}
use Rattle.dg_world.specs.Boards.{WorldStands}
use Rattle.dg_replay.specs.Boards.{StoppedIn}
use Rattle.dg_world.proofs.EndureLemmas.{boards_through, board_stops, chips_read}

-- one of the boards stopped
pub read_stopped : (w : World) (board : ℕ) (initial old new : List Device) → board < length w.sites → SameBoards old new → ((m : ℕ) → length w.sites ≤ m → slice_get new m ≡ slice_get old m) → ReadFlash board old new → WorldStands w initial old
    → (motes : ℕ) → motes ≡ length w.sites → StoppedIn motes [] [] (Some w) initial new
read_stopped w board initial old new known same others f b motes count =
    record {
      stopped = board_stops motes board initial old new f.before f.after (omega (arith, known, count)) b.all f.was f.is f.stopped (same.counts board f.before f.after f.was f.is) f.cause;
      there = record {
        stands = chips_read w initial old new same b board f.after known f.is;
        others = record {
          all = boards_through initial old new b.all same.count same.endures;
          stands = λ m d within other here. chips_read w initial old new same b m d within here;
          came = b.came;
          others = λ m past. others m past ∙ b.others m past;
        };
        unread = old;
        stood = b;
        read = same;
      };
    }

pub finished_as : (result : Status) (w : World) (told lines : List Report) (initial new : List Device) (before after : Option (List ℕ)) (failed : Type 0) → told ≡ lines → lines ≡ final_lines w → EndsWith result status.Done (report_text told) before after failed
    → WorldStands w initial new → FinishesWith result w initial new before after failed
finished_as result w told lines initial new before after failed same all ends stands =
    inl (subst (λ (rs : List Report). EndsWith result status.Done (report_text rs) before after failed) (same ∙ all) ends, stands)
