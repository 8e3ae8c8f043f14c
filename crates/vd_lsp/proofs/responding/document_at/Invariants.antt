use Rattle.std.proofs.Common.{◌≡◌, drop}
use Rattle.vd_lsp.specs.States.{document_at}
use Rattle.vd_lsp.proofs.responding.document_at.Given as goal

abbrev pub invariant-loop-document : goal.invariant-loop-document
invariant-loop-document l = document_at l.uri (drop l.document-index l.documents) ≡ document_at l.uri l.documents
