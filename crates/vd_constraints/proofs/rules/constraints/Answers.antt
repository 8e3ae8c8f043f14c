use Rattle.std.proofs.Common.{◌≡◌, ◌^◌, ◌<◌, length, sym, ap, ◌∙◌, subst}
use Rattle.std.proofs.lemmas.Result.{IfOk-weaker}
use Rattle.vd_core.specs.declared.normal.NormalForm.{NormalForm}
use Rattle.vd_constraints.specs.Origins.{origins_of}
use Rattle.vd_constraints.specs.Rules.{system_of}
use Rattle.vd_constraints.specs.Scoped.{IsScoped}
use Rattle.vd_constraints.specs.Systems.{IsSmall}
use Rattle.vd_constraints.specs.declared.rules.Collected.{Collected}
use Rattle.vd_constraints.proofs.Asking.{collected_as_many}
use Rattle.vd_constraints.proofs.Few.{well_made_slots, well_made_small}
use Rattle.vd_constraints.proofs.InSight.{well_made_scoped}
use Rattle.vd_constraints.proofs.rules.constraints.Goals as goal

pub constraints_of-requires : goal.constraints_of-requires
constraints_of-requires c =
    let program = c.args.program.now in
    let well_made = c.form.ensures.well_made in
    record {
      scoped = subst IsScoped (sym c.form.ensures.same) (well_made_scoped program well_made);
      slots = subst (λ (form : NormalForm). length form.slots < 2 ^ 32) (sym c.form.ensures.same) (well_made_slots program well_made);
      small = subst (λ (form : NormalForm). IsSmall (system_of form)) (sym c.form.ensures.same) (well_made_small program well_made);
    }

pub returns-clause-origins : goal.returns-clause-origins
returns-clause-origins c =
    IfOk-weaker c.constraints_of.result (λ (collected : Collected). collected.origins ≡ origins_of c.form.result.now) (λ (collected : Collected). collected.origins ≡ origins_of c.args.program.now)
    (λ collected is. is ∙ ap origins_of c.form.ensures.same) c.constraints_of.ensures.origins

pub returns-clause-as_many : goal.returns-clause-as_many
returns-clause-as_many c = collected_as_many c.form.result.now c.constraints_of.result c.constraints_of.ensures.system c.constraints_of.ensures.origins
