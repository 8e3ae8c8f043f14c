use Rattle.std.proofs.Common.{◌∙◌, sym}
use Rattle.std.proofs.lemmas.Result.{err_from_is_err_and}
use Rattle.vd_hostcode.specs.Heading.{hosts_at}
use Rattle.vd_hostcode.proofs.NamesSteps.{first_fault, first_name, next_fault, next_name, no_more, enough}
use Rattle.vd_hostcode.proofs.host_text.heading.read_hosts.Goals as goal
use Rattle.vd_hostcode.proofs.host_text.heading.read_hosts.Goals.{then-names-test+else-stands_at, else-names-test}

pub returns-in_err-first-clause-names : goal.returns-in_err-first-clause-names
returns-in_err-first-clause-names c =
    let p = err_from_is_err_and c.from_residual.result c.from_residual.ensures.1 in
    rw (p.1, p.2) (first_fault c.in_err-first.field-0.0 c.as_slice.result.now c.new-hosts.result c.args.cursor.now c.read_next_name.new.cursor c.as_slice.ensures c.new-hosts.ensures c.in_err-first.ensures)

pub names-init : goal.names-init
names-init c =
    first_name c.as_slice.result.now c.new-hosts.result c.push.new.self c.args.cursor.now c.read_next_name.new.cursor c.in_ok-first.first c.as_slice.ensures c.new-hosts.ensures c.in_ok-push.ensures.ok c.in_ok-first.ensures

pub returns-in_err-next-clause-names : goal.returns-in_err-next-clause-names
returns-in_err-next-clause-names c =
    let p = err_from_is_err_and c.from_residual-in_err-next.result c.from_residual-in_err-next.ensures.1 in
    rw (p.1, p.2)
    (next_fault c.in_err-next.field-0.0 c.names.hosts c.as_slice-in-names.result.now c.as_slice-in-names-2.result.now c.names.cursor c.read_next_name-in-names.new.cursor (hosts_at c.args.cursor.now)
    c.as_slice-in-names.ensures c.as_slice-in-names-2.ensures c.names-test.true (sym c.stands_at.ensures ∙ c.if-stands_at.true) c.in_err-next.ensures c.names.invariant)

pub names-preserved : goal.names-preserved
names-preserved c =
    next_name c.names.hosts c.as_slice-in-names.result.now c.as_slice-in-names-2.result.now c.push-in-names.new.self c.names.cursor c.read_next_name-in-names.new.cursor c.in_ok-next.next (hosts_at c.args.cursor.now)
    c.as_slice-in-names.ensures c.as_slice-in-names-2.ensures c.names-test.true (sym c.stands_at.ensures ∙ c.if-stands_at.true) c.in_ok-next.ensures c.in_ok-push-2.ensures.ok c.names.invariant

pub returns-clause-names : goal.returns-clause-names
returns-clause-names c = elim c.names-test.branch [
  | then-names-test+else-stands_at w ↦ no_more c.names.hosts c.names.cursor (hosts_at c.args.cursor.now) (sym w.stands_at.ensures ∙ w.if-stands_at.false) c.names.invariant
  | else-names-test w ↦ enough c.names.hosts c.as_slice-in-names.result.now c.names.cursor (hosts_at c.args.cursor.now) c.as_slice-in-names.ensures w.names-test.false c.names.invariant
]
