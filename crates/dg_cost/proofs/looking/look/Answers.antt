use Rattle.std.proofs.Common.{◌<◌, ◌≤◌, ℕ, List, length, map, set, refl, ◌∙◌, arith}
use Rattle.std.specs.Prelude.{Option}
use Rattle.std.proofs.lemmas.List.{length-map, length-set, map-set}
use Rattle.dg_meter.specs.Meters.{metered_device}
use Rattle.dg_moments.specs.declared.given.Given.{Given}
use Rattle.dg_world.proofs.FinishLemmas.{same_boards}
use Rattle.dg_cost.proofs.LookingLemmas.{board_read, one_longer, reads_more, reads_all}
use Rattle.dg_cost.proofs.looking.look.Goals as goal

pub loop-index-preserved : goal.loop-index-preserved
loop-index-preserved g c =
    let so = c.loop-index.invariant in
    let i : ℕ = c.loop-index.index in
    let device = metered_device g.N.Nor.device in
    let boards = c.loop-index.boards.items in
    let given : List (Option Given) = c.loop-index.given.items in
    let longer = c.in_ok-push.ensures.items in
    let within : i < length (map device boards) = omega (arith, length-map boards device, so.boards, c.len-index-end.ensures, c.loop-index-test.true) in
    let there : i < length boards = omega (arith, so.boards, c.len-index-end.ensures, c.loop-index-test.true) in
    record {
      boards = length-set boards i c.look_at.new.board ∙ so.boards;
      read = board_read device i _ _ boards _ _ _ so.read there c.index_mut.ensures.value refl c.look_at.ensures.read c.look_at.ensures.same_image;
      given = one_longer given c.push.new.self.items c.look_at.result i longer so.given;
      reads = reads_more given c.push.new.self.items (map device boards) (map device (set boards i c.look_at.new.board)) i c.look_at.result
          (device c.look_at.new.board) longer so.given within (map-set device boards i c.look_at.new.board) c.look_at.ensures.given so.reads;
    }

pub returns-clause-given : goal.returns-clause-given
returns-clause-given g c =
    let so = c.loop-index.invariant in
    let device = metered_device g.N.Nor.device in
    let boards = c.loop-index.boards.items in
    let all : length (map device boards) ≤ c.loop-index.index =
    omega (arith, length-map boards device, so.boards, c.len-index-end.ensures, c.loop-index-test.false) in
    reads_all c.loop-index.given.items (map device boards) c.loop-index.index all so.reads

pub returns-in_err-push-clause-read : goal.returns-in_err-push-clause-read
returns-in_err-push-clause-read g c =
    let so = c.loop-index.invariant in
    let i : ℕ = c.loop-index.index in
    let boards = c.loop-index.boards.items in
    let there : i < length boards = omega (arith, so.boards, c.len-index-end.ensures, c.loop-index-test.true) in
    same_boards _ _ _ (board_read (metered_device g.N.Nor.device) i _ _ boards _ _ _ so.read there c.index_mut.ensures.value refl c.look_at.ensures.read
    c.look_at.ensures.same_image)

pub returns-clause-read : goal.returns-clause-read
returns-clause-read g c = same_boards _ _ _ c.loop-index.invariant.read
