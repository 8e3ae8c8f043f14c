use Rattle.std.proofs.Common.{ℕ, ◌≤◌, List, [], length, sym, ◌∙◌, subst}
use Rattle.std.proofs.lemmas.Result.{err_from_is_err_and}
use Rattle.vd_base.specs.Limits.{most_source_bytes}
use Rattle.vd_cmd_plan.proofs.Front.{any_memory}
use Rattle.vd_cmd_choice.specs.Searching.{GaveUp, searched_by}
use Rattle.vd_cmd_choose.proofs.Front.{short_source}
use Rattle.vd_cmd_trial.proofs.Ends.{ends}
use Rattle.vd_cmd_trial.proofs.Texts.{rules_refused, source_runs, tree_refused}
use Rattle.vd_cmd_trial.proofs.Told.{few_executed, trial_told}
use Rattle.vd_cmd_trial.proofs.trial_command.trial.Goals as goal

pub read_source-requires : goal.read_source-requires
read_source-requires c =
    subst (λ (b : List ℕ). length b ≤ most_source_bytes) (sym (c.as_slice.ensures ∙ c.in_ok-text.ensures {u = tt})) (short_source c.args.coordinates c.requires.some c.requires.most)

pub trial_source-requires : goal.trial_source-requires
trial_source-requires c =
    few_executed c.args.coordinates c.requires.some c.requires.most c.in_ok-text.text c.as_slice.result.now c.in_ok-tree.tree c.in_ok-source.source (c.in_ok-text.ensures {u = tt}) c.as_slice.ensures
    (c.in_ok-tree.ensures {u = tt}).parsed (c.in_ok-source.ensures {u = tt})

pub returns-in_err-text-clause-executes : goal.returns-in_err-text-clause-executes
returns-in_err-text-clause-executes c = (
  GaveUp,
  λ certificates choices texts least files. let p = err_from_is_err_and c.from_residual.result c.from_residual.ensures.1 in rw (p.1, p.2) (any_memory _ files),
)

pub returns-in_err-tree-clause-executes : goal.returns-in_err-tree-clause-executes
returns-in_err-tree-clause-executes c = (
  GaveUp,
  λ certificates choices texts least files.
      let p = err_from_is_err_and c.from_residual-in_err-tree.result c.from_residual-in_err-tree.ensures.1 in
      rw (p.1, p.2)
      (tree_refused texts least choices (searched_by certificates choices GaveUp) c.args.coordinates c.in_ok-text.text c.as_slice.result.now (c.in_ok-text.ensures {u = tt}) c.as_slice.ensures files c.in_err-tree.field-0.0
      ((c.in_err-tree.ensures {u = tt}).reads texts [])),
)

pub returns-in_err-source-clause-executes : goal.returns-in_err-source-clause-executes
returns-in_err-source-clause-executes c = (
  GaveUp,
  λ certificates choices texts least files.
      let p = err_from_is_err_and c.from_residual-in_err-source.result c.from_residual-in_err-source.ensures.1 in
      rw (p.1, p.2)
      (rules_refused texts least choices (searched_by certificates choices GaveUp) c.args.coordinates c.in_ok-text.text c.as_slice.result.now (c.in_ok-text.ensures {u = tt}) c.as_slice.ensures files c.in_ok-tree.tree
      ((c.in_ok-tree.ensures {u = tt}).reads texts []) c.in_err-source.field-0.0 (c.in_err-source.ensures {u = tt})),
)

pub returns-clause-executes : goal.returns-clause-executes
returns-clause-executes c =
    let s = c.trial_source.ensures.executes in (
      s.0,
      λ certificates choices texts least files.
          source_runs texts least choices (searched_by certificates choices s.0) c.args.coordinates c.in_ok-text.text c.as_slice.result.now (c.in_ok-text.ensures {u = tt}) c.as_slice.ensures files c.in_ok-tree.tree
          ((c.in_ok-tree.ensures {u = tt}).reads texts []) c.in_ok-source.source _ (c.in_ok-source.ensures {u = tt}) (s.1 certificates choices least files),
    )

pub returns-clause-tells : goal.returns-clause-tells
returns-clause-tells c =
    trial_told c.args.coordinates c.in_ok-text.text c.as_slice.result.now c.in_ok-tree.tree c.in_ok-source.source c.trial_source.result (c.in_ok-text.ensures {u = tt}) c.as_slice.ensures (c.in_ok-tree.ensures {u = tt}).parsed
    (c.in_ok-source.ensures {u = tt}) c.trial_source.ensures.tells

pub returns-in_err-text-clause-ends : goal.returns-in_err-text-clause-ends
returns-in_err-text-clause-ends c = ends c.args.coordinates c.requires.some c.requires.most c.from_residual.result (returns-in_err-text-clause-executes c)

pub returns-in_err-tree-clause-ends : goal.returns-in_err-tree-clause-ends
returns-in_err-tree-clause-ends c = ends c.args.coordinates c.requires.some c.requires.most c.from_residual-in_err-tree.result (returns-in_err-tree-clause-executes c)

pub returns-in_err-source-clause-ends : goal.returns-in_err-source-clause-ends
returns-in_err-source-clause-ends c = ends c.args.coordinates c.requires.some c.requires.most c.from_residual-in_err-source.result (returns-in_err-source-clause-executes c)

pub returns-clause-ends : goal.returns-clause-ends
returns-clause-ends c = ends c.args.coordinates c.requires.some c.requires.most c.trial_source.result (returns-clause-executes c)
