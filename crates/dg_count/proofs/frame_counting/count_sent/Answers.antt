use Rattle.std.proofs.Common.{◌<◌, ◌≤◌, ℕ, length, arith}
use Rattle.dg_count.proofs.FrameLemmas.{none_sent, one_sent, not_sent}
use Rattle.dg_count.proofs.frame_counting.count_sent.Goals as goal

pub returns-then-all-len : goal.returns-then-all-len
returns-then-all-len c past p shown has kept =
    let all : ℕ = c.frames_sent-all.result in
    let few : all ≤ length c.args.frames.now.sent.items = omega (arith, c.if-all-len.true, c.len.ensures, c.args.frames.now.sent.ok.0) in
    c.skip.ensures c.args.event.now c.args.reports.now past p
    (none_sent all c.requires.none (c.frames_sent-all.ensures shown.boards p.after shown.stands) few (has kept).0 shown) has kept

pub returns-in-Some : goal.returns-in-Some
returns-in-Some c past p shown has kept =
    let all : ℕ = c.frames_sent-all.result in
    let more : length c.args.frames.now.sent.items < all = omega (arith, c.if-all-len.false, c.len.ensures, c.args.frames.now.sent.ok.0) in
    c.send.ensures.frames c.args.reports.now past p
    (one_sent all c.kind_of.result c.in-Some.message.now c.requires.none (c.frames_sent-all.ensures shown.boards p.after shown.stands) more
    (c.in-Some.ensures.sent shown.boards p.after shown.stands) c.kind_of.ensures.number c.kind_of.ensures.size
    (has (c.send.ensures.lost kept)).0 shown) has kept

pub returns-in-None : goal.returns-in-None
returns-in-None c past p shown has kept =
    let all : ℕ = c.frames_sent-all.result in
    let more : length c.args.frames.now.sent.items < all = omega (arith, c.if-all-len.false, c.len.ensures, c.args.frames.now.sent.ok.0) in
    absurd (not_sent all (c.frames_sent-all.ensures shown.boards p.after shown.stands) more (c.in-None.ensures.sent shown.boards p.after shown.stands)
    (has kept).0 shown)
