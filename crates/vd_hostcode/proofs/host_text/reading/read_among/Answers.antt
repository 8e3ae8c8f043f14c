use Rattle.std.proofs.Common.{◌∙◌, sym}
use Rattle.vd_hostcode.specs.declared.host_text.words.Word.TheVariants as word
use Rattle.vd_hostcode.specs.Lines.{allows}
use Rattle.vd_hostcode.specs.Reading.{among}
use Rattle.vd_hostcode.proofs.AmongSteps.{shared_within, word_here, word_not_here, word_may_not, no_word, max_is}
use Rattle.vd_hostcode.proofs.host_text.reading.read_among.Goals as goal
use Rattle.vd_hostcode.proofs.host_text.reading.read_among.Goals.{then-allows+else-shared-text, else-allows}

pub skip-requires : goal.skip-requires
skip-requires c = shared_within c.spelling-text.result.now c.as_slice.result.now c.loop-word.cursor c.alike-shared.result c.as_slice.ensures c.alike-shared.ensures

pub returns-then-shared-text : goal.returns-then-shared-text
returns-then-shared-text c =
    word_here (allows c.args.outline.now) c.args.words.now word.Const c.loop-word.word-index c.loop-word.far c.alike-shared.result c.spelling-text.result.now c.as_slice.result.now c.loop-word.cursor c.skip.new.self
    (among (allows c.args.outline.now) c.args.words.now 0 c.args.cursor.now) c.loop-word-test.true (sym c.allows.ensures ∙ c.if-allows.true) c.spelling-text.ensures c.as_slice.ensures c.alike-shared.ensures c.if-shared-text.true
    c.skip.ensures c.loop-word.invariant.2

pub loop-word-preserved : goal.loop-word-preserved
loop-word-preserved c =
    let total = among (allows c.args.outline.now) c.args.words.now 0 c.args.cursor.now in
    elim c.if-allows.branch [
      | then-allows+else-shared-text w ↦
          let h =
          word_not_here (allows c.args.outline.now) c.args.words.now word.Const c.loop-word.word-index c.loop-word.far w.alike-shared.result c.if-allows.far w.spelling-text.result.now w.as_slice.result.now c.loop-word.cursor total
          c.loop-word-test.true (sym c.allows.ensures ∙ w.if-allows.true) w.spelling-text.ensures w.as_slice.ensures w.alike-shared.ensures w.if-shared-text.false (w.far-is ∙ w.max-far.ensures ∙ max_is c.loop-word.far w.alike-shared.result) c.loop-word.invariant.1 c.loop-word.invariant.2 in
          (c.loop-word.invariant.0, h.0, h.1)
      | else-allows w ↦
          let h =
          word_may_not (allows c.args.outline.now) c.args.words.now word.Const c.loop-word.word-index c.loop-word.far c.if-allows.far c.loop-word.cursor total c.loop-word-test.true (sym c.allows.ensures ∙ w.if-allows.false) w.far-is
          c.loop-word.invariant.1 c.loop-word.invariant.2 in
          (c.loop-word.invariant.0, h.0, h.1)
    ]

pub returns : goal.returns
returns c =
    no_word (allows c.args.outline.now) c.args.words.now c.loop-word.word-index c.loop-word.far c.loop-word.cursor c.skip-2.new.self (among (allows c.args.outline.now) c.args.words.now 0 c.args.cursor.now) c.loop-word-test.false
    c.skip-2.ensures c.loop-word.invariant.2
