use Rattle.std.proofs.Common.{◌∙◌, ℕ, List, Ok, Err, refl, ap}
use Rattle.std.proofs.lemmas.Result.{err_from_is_err_and}
use Rattle.vd_base.specs.declared.faults.CallFault.TheVariants as call_fault
use Rattle.vd_cmd_plan.specs.declared.status.Status.TheVariants as status
use Rattle.vd_cmd_host.specs.Checking.{NoRoom}
use Rattle.vd_cmd_host.proofs.Checks.{looked}
use Rattle.vd_cmd_host.proofs.check_command.look_for_mark.Goals as goal

pub returns-in_err-name : goal.returns-in_err-name
returns-in_err-name g c =
    let p = err_from_is_err_and c.from_residual.result c.from_residual.ensures.1 in
    rw (p.1, p.2) (NoRoom refl)

pub returns-in_err-deal : goal.returns-in_err-deal
returns-in_err-deal g c =
    let p = err_from_is_err_and c.from_residual-in_err-deal.result c.from_residual-in_err-deal.ensures.1 in
    rw (p.1, p.2) (NoRoom refl)

pub returns-in-Ok : goal.returns-in-Ok
returns-in-Ok g c =
    looked c.args.words.now c.args.loaded.now c.args.secrets.now (g.M.Marks.view c.args.marks.now) (g.M.Marks.view c.is_taken.new.self)
    c.as_str-2.result.now c.in_ok-name.name c.as_slice.result.now (Ok c.in-Ok.used) _ c.requires c.as_str-2.ensures c.as_slice.ensures
    (c.in_ok-name.ensures {u = tt}) (c.in-Ok.ensures {u = tt}) refl

pub returns-in-Err-Failed : goal.returns-in-Err-Failed
returns-in-Err-Failed g c =
    looked c.args.words.now c.args.loaded.now c.args.secrets.now (g.M.Marks.view c.args.marks.now) (g.M.Marks.view c.is_taken.new.self)
    c.as_str-2.result.now c.in_ok-name.name c.as_slice.result.now (Err call_fault.Failed) _ c.requires c.as_str-2.ensures c.as_slice.ensures
    (c.in_ok-name.ensures {u = tt}) (rw c.in-Err-Failed.field-0-is at (c.in-Err-Failed.ensures {u = tt}))
    (ap (λ (n : List ℕ). Err (status.ReadFault n)) ((c.in_ok-deal.ensures {u = tt}) ∙ c.as_str.ensures))

pub returns : goal.returns
returns g c =
    looked c.args.words.now c.args.loaded.now c.args.secrets.now (g.M.Marks.view c.args.marks.now) (g.M.Marks.view c.is_taken.new.self)
    c.as_str-2.result.now c.in_ok-name.name c.as_slice.result.now (Err call_fault.Memory) _ c.requires c.as_str-2.ensures c.as_slice.ensures
    (c.in_ok-name.ensures {u = tt}) (rw c.in-Err-Memory.field-0-is at (c.in-Err-Memory.ensures {u = tt})) refl
