-- Names in sight: what each stands for, and where it was declared.
use Rattle.vd_base.specs.Names.{Named}
use Rattle.vd_base.specs.declared.ids.Span.{Span}

abbrev pub Table : Type 0 → Type 0
Table V = Named V × Named Span

abbrev pub names : {V : Type 0} → Table V → Named V
names table = table.0

abbrev pub places : {V : Type 0} → Table V → Named Span
places table = table.1
