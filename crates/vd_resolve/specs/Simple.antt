-- Statements without blocks. Where one stands in the text decides neither its fault nor its size.
use Rattle.std.specs.Prelude.{ℕ, Option}
use Rattle.vd_base.specs.declared.operations.Kind.{Kind}
use Rattle.vd_core.specs.declared.source.Ident.{Ident}
use Rattle.vd_core.specs.declared.source.WrittenLabel.{WrittenLabel}
use Rattle.vd_core.specs.declared.source.Expr.{Expr}
use Rattle.vd_core.specs.declared.source.Statement.TheOpen.{Statement-F}

abbrev pub a_let : {A : Type 0} → Ident → Option WrittenLabel → Expr → Statement-F A
a_let x label value = Statement-F.Let x.span x label value

abbrev pub a_var : {A : Type 0} → Ident → Kind → Option WrittenLabel → Expr → Statement-F A
a_var x kind label value = Statement-F.Var x.span x kind label value

abbrev pub an_array : {A : Type 0} → Ident → Kind → ℕ → Option WrittenLabel → Statement-F A
an_array x kind length label = Statement-F.Array x.span x kind length label

abbrev pub a_store : {A : Type 0} → Ident → Expr → Statement-F A
a_store x value = Statement-F.Store x value

abbrev pub a_put : {A : Type 0} → Ident → Expr → Expr → Statement-F A
a_put x index value = Statement-F.Put x index value

abbrev pub an_output : {A : Type 0} → Expr → Ident → Statement-F A
an_output value host = Statement-F.Output host.span value host
