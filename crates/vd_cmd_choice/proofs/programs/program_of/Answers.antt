use Rattle.std.proofs.lemmas.Result.{err_from_is_err_and}
use Rattle.vd_cmd_choice.proofs.ReadPrograms.{no_memory, program_is, program_read, rules_refused, tree_refused}
use Rattle.vd_cmd_choice.proofs.programs.program_of.Goals as goal

pub returns-in_err-tree-clause-reads : goal.returns-in_err-tree-clause-reads
returns-in_err-tree-clause-reads c = λ texts least name files.
    let p = err_from_is_err_and c.from_residual.result c.from_residual.ensures.1 in
    rw (p.1, p.2) (tree_refused texts least name c.args.text.now files c.in_err-tree.field-0.0 ((c.in_err-tree.ensures {u = tt}).reads texts name))

pub returns-in_err-source-clause-reads : goal.returns-in_err-source-clause-reads
returns-in_err-source-clause-reads c = λ texts least name files.
    let p = err_from_is_err_and c.from_residual-in_err-source.result c.from_residual-in_err-source.ensures.1 in
    rw (p.1, p.2)
    (rules_refused texts least name c.args.text.now files c.in_ok-tree.tree c.in_err-source.field-0.0 ((c.in_ok-tree.ensures {u = tt}).reads texts name) (c.in_err-source.ensures {u = tt}))

pub returns-in_err-program-clause-reads : goal.returns-in_err-program-clause-reads
returns-in_err-program-clause-reads c = λ texts least name files.
    let p = err_from_is_err_and c.from_residual-in_err-program.result c.from_residual-in_err-program.ensures.1 in
    rw (p.1, p.2) (no_memory texts least name c.args.text.now files)

pub returns-clause-reads : goal.returns-clause-reads
returns-clause-reads c = λ texts least name files.
    program_read texts least name c.args.text.now files c.in_ok-tree.tree c.in_ok-source.source c.in_ok-program.program ((c.in_ok-tree.ensures {u = tt}).reads texts name)
    (c.in_ok-source.ensures {u = tt}) (c.in_ok-program.ensures.form least)

pub returns-clause-is_run : goal.returns-clause-is_run
returns-clause-is_run c =
    program_is c.args.text.now c.in_ok-tree.tree c.in_ok-source.source c.in_ok-program.program (c.in_ok-tree.ensures {u = tt}).parsed (c.in_ok-source.ensures {u = tt})
    c.in_ok-program.ensures.made c.in_ok-program.ensures.tells
