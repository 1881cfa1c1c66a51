use Rattle.std.proofs.Common.{Vec, Global, ℕ}
use Rattle.vortex_dtype_core.specs.View.{type_of}
use Rattle.vortex_stats_rules.proofs.Joining.{at_error}
use Rattle.vortex_table_text.specs.Writing.{Writes}
use Rattle.example_reader.specs.Lines.{footer_text}
use Rattle.example_reader.proofs.WriteLemmas.{other_type, same_type, zones_refused, written, footer_again, fault_again}
use Rattle.example_reader.proofs.footer.Footer.to_lines.Goals as goal

pub returns-then-ne-clause-text : goal.returns-then-ne-clause-text
returns-then-ne-clause-text c =
    other_type (type_of c.args.self.now.dtype) c.args.self.now.zones (type_of c.dtype.result.now) (type_of c.in_ok-zone_dtype.zone_dtype)
    c.dtype.ensures c.in_ok-zone_dtype.ensures.dtype c.if-ne.ensures

pub returns-in_err-push_lines-clause-text : goal.returns-in_err-push_lines-clause-text
returns-in_err-push_lines-clause-text c =
    let k = type_of c.args.self.now.dtype in let zones = c.args.self.now.zones in
    let same = same_type k zones (type_of c.dtype.result.now) (type_of c.in_ok-zone_dtype.zone_dtype) c.dtype.ensures c.in_ok-zone_dtype.ensures.dtype c.if-ne.ensures in
    at_error c.from_residual-in_err-push_lines.result c.in_err-push_lines.field-0.0
    (λ r. Writes {X = Vec ℕ Global} (λ text. text.items) r (footer_text k zones)) c.from_residual-in_err-push_lines.ensures.1
    (zones_refused k zones c.in_ok-text.text.items same c.in_ok-text.ensures.text c.push_lines.new.out.items c.in_err-push_lines.field-0.0 c.in_err-push_lines.ensures.text)

pub returns-clause-text : goal.returns-clause-text
returns-clause-text c =
    let k = type_of c.args.self.now.dtype in let zones = c.args.self.now.zones in
    let same = same_type k zones (type_of c.dtype.result.now) (type_of c.in_ok-zone_dtype.zone_dtype) c.dtype.ensures c.in_ok-zone_dtype.ensures.dtype c.if-ne.ensures in
    written k zones c.in_ok-text.text.items same c.in_ok-text.ensures.text c.push_lines.new.out.items c.in_ok-push_lines.ensures.text

pub returns-clause-round_trip : goal.returns-clause-round_trip
returns-clause-round_trip c =
    let k = type_of c.args.self.now.dtype in let zones = c.args.self.now.zones in
    let same = same_type k zones (type_of c.dtype.result.now) (type_of c.in_ok-zone_dtype.zone_dtype) c.dtype.ensures c.in_ok-zone_dtype.ensures.dtype c.if-ne.ensures in
    footer_again k zones c.in_ok-text.text.items same c.in_ok-text.ensures.text c.push_lines.new.out.items c.in_ok-push_lines.ensures.text
    c.in_ok-text.ensures.round_trip c.in_ok-push_lines.ensures.round_trip

pub returns-clause-fault : goal.returns-clause-fault
returns-clause-fault c =
    let k = type_of c.args.self.now.dtype in let zones = c.args.self.now.zones in
    let same = same_type k zones (type_of c.dtype.result.now) (type_of c.in_ok-zone_dtype.zone_dtype) c.dtype.ensures c.in_ok-zone_dtype.ensures.dtype c.if-ne.ensures in
    fault_again k zones c.in_ok-text.text.items same c.in_ok-text.ensures.text c.push_lines.new.out.items c.in_ok-push_lines.ensures.text
    c.in_ok-text.ensures.round_trip c.in_ok-push_lines.ensures.round_trip
