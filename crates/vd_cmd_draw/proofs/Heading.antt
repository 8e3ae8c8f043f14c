-- The heading is read back.
use Rattle.std.proofs.Common.{◌≡◌, ℕ, ◌<◌, ◌^◌, List, [], ◌∷◌, ◌++◌, length, codes, refl, ap, sym, ◌∙◌, append_assoc, arith, length-append, lit<}
use Rattle.std.specs.Fmt.{decimal}
use Rattle.std.specs.List.{list_all}
use Rattle.std.proofs.lemmas.Bool.{and_from}
use Rattle.std.proofs.lemmas.List.Folds.{list_all-append}
use Rattle.vd_report.specs.LineWords.{is_inside, line_words}
use Rattle.vd_report.proofs.Front.{AreRead, IsText, number_text, one_read, word_read}
use Rattle.vd_draw_layout.specs.declared.layout.Layout.{Layout}
use Rattle.vd_draw_layout.specs.Layout.{layout_of}
use Rattle.vd_draw_picture.specs.Heads.{said_at, summary}
use Rattle.vd_cmd_draw.specs.Heading.{HeadingTellsCost, TellsCost}

comma_text : (word : List ℕ) → IsText word → IsText (word ++ 44 ∷ [])
comma_text word text = (
  list_all-append is_inside word (44 ∷ []) ∙ and_from (list_all is_inside word) (list_all is_inside (44 ∷ [])) text.0 refl,
  let some = text.1 in let whole = length-append word (44 ∷ []) in omega (arith, some, whole),
)

cost_text : IsText (codes "cost")
cost_text = (refl, lit< tt)

module _ (cost slots : ℕ) (dear : cost < 2 ^ 64) (many : slots < 2 ^ 64) (first second third : List ℕ) where
  abbrev cost_part : List ℕ
  cost_part = codes "cost" ++ 32 ∷ (decimal cost ++ 44 ∷ [])

  abbrev front : List ℕ
  front = cost_part ++ 32 ∷ decimal slots

  abbrev rest : List ℕ
  rest = codes "slots" ++ first ++ second ++ third

  front_is : codes "cost " ++ decimal cost ++ codes ", " ++ decimal slots ≡ front
  front_is =
      ap (λ (t : List ℕ). codes "cost " ++ t ++ decimal slots) (sym (append_assoc (decimal cost) (44 ∷ []) (32 ∷ [])))
      ∙ append_assoc cost_part (32 ∷ []) (decimal slots)

  whole_is : codes "cost " ++ decimal cost ++ codes ", " ++ decimal slots ++ codes " slots" ++ first ++ second ++ third ≡ front ++ 32 ∷ rest
  whole_is =
      ap (λ (t : List ℕ). t ++ codes " slots" ++ first ++ second ++ third) front_is
      ∙ ap (λ (t : List ℕ). t ++ second ++ third) (append_assoc front (codes " slots") first)
      ∙ ap (λ (t : List ℕ). t ++ third) (append_assoc front (codes " slots" ++ first) second)
      ∙ append_assoc front (codes " slots" ++ first ++ second) third

  front_read : AreRead front (codes "cost" ∷ (decimal cost ++ 44 ∷ []) ∷ decimal slots ∷ [])
  front_read =
      word_read cost_part (decimal slots) (codes "cost" ∷ (decimal cost ++ 44 ∷ []) ∷ [])
      (word_read (codes "cost") (decimal cost ++ 44 ∷ []) (codes "cost" ∷ []) (one_read (codes "cost") cost_text) (comma_text (decimal cost) (number_text cost dear)))
      (number_text slots many)

  told : TellsCost (codes "cost " ++ decimal cost ++ codes ", " ++ decimal slots ++ codes " slots" ++ first ++ second ++ third) cost slots
  told = record { more = line_words rest; read = ap line_words whole_is ∙ front_read.on rest }

pub heading_tells : HeadingTellsCost
heading_tells hosts labels rows slots dear many =
    let g : Layout = layout_of hosts labels rows in
    told g.total slots dear many (said_at g 1) (said_at g 2) (said_at g 3)
