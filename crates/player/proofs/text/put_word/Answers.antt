-- The word in the place of as many bytes.
use Rattle.std.proofs.Common.{refl}
use Rattle.player.proofs.Laws.Text.{word_put}
use Rattle.player.proofs.text.put_word.Goals as goal

pub returns : goal.returns
returns c =
    let x = c.args in
    record { end = refl; text = rw c.copy_from_slice.ensures.after (word_put x.text.now x.word.now x.at) }
