-- The language server as a command.
use Rattle.std.specs.Prelude.{◌≡◌, ◌⊎◌, ℕ, Bool, false, List, [], ◌∷◌, codes}
use Rattle.std.specs.Str.{bytes_eq}
use Rattle.vd_outside.specs.Sink.{SinkView}
use Rattle.vd_cmd_plan.specs.Lines.{Says}
use Rattle.vd_lsp.specs.declared.serving.ServeFault.{ServeFault}
use Rattle.vd_lsp.specs.declared.serving.ServeFault.TheVariants as serve_fault

-- its one word is `lsp`
abbrev pub is_server : List (List ℕ) → Bool
is_server [] = false
is_server (word ∷ []) = bytes_eq word (codes "lsp")
is_server (word ∷ other ∷ more) = false

abbrev pub fault_line : ServeFault → List ℕ
fault_line serve_fault.Memory = codes "viaduct: memory\n"
fault_line serve_fault.BadFrame = codes "viaduct: lsp: what came is no frame\n"
fault_line serve_fault.Stream = codes "viaduct: lsp: a stream failed\n"

-- The server was asked to end, or its input ended, and nothing was said besides; or it ended with 1, and a line says why.
abbrev pub EndsServer : SinkView → SinkView → (status : ℕ) → Type 0
EndsServer before now status = (now ≡ before) ⊎ ((fault : ServeFault) × Says (fault_line fault) before now × (status ≡ 1))
