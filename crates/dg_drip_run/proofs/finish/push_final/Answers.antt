use Rattle.std.proofs.Common.{ℕ, List, length, ap}
use Rattle.std.specs.List.{flat_map, range_with_len}
use Rattle.dg_drip_replay.specs.declared.report.DripReport.TheVariants.{End}
use Rattle.dg_drip_script.specs.Reports.{drip_report_line, node_text}
use Rattle.dg_drip_script.specs.Scripts.{network_of}
use Rattle.dg_drip_run.proofs.FinishLemmas.{told_both}
use Rattle.dg_drip_run.proofs.finish.push_final.Goals as goal

pub returns : goal.returns
returns c = λ s before h.
    let end_line : ℕ → List ℕ = λ n. drip_report_line (End n) in
    let nodes_text : ℕ → List ℕ = λ n. flat_map (node_text (network_of s)) (range_with_len 0 n) in
    told_both c.push_nodes.result c.args.text.now.items c.push_end.new.out.items c.push_nodes.new.text.items (end_line c.args.player.now.events) (nodes_text c.args.player.now.standing.nodes) (end_line (length s.items)) (nodes_text s.nodes)
    c.in_ok-push_end.ensures (c.push_nodes.ensures (network_of s) h.stands) (ap end_line h.events) (ap nodes_text (ap (λ t. t.nodes) h.standing))
