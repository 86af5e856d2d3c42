-- `reply::put` meets its contract: what is copied between the bytes before and after is what `sets` stores.
use Rattle.std.proofs.Common.{refl, sym, ◌∙◌, ◌+◌, arith, length, take, drop}
use mathlib.Core.List.{append_assoc}
use Rattle.std.proofs.lemmas.List.Edits.{sets-eq, paste_all}
use Rattle.std.proofs.lemmas.Slice.{put_mid-paste}
use Rattle.reply.proofs.put.Goals as goal

pub returns : goal.returns
returns c =
    let a = c.args in
    let bytes = a.bytes.now in
    record {
      stored =
          put_mid-paste a.place _ a.out.now _ bytes (length bytes) c.copy_from_slice.ensures.after (omega arith) refl
          ∙ paste_all a.out.now a.place bytes (length bytes) refl
          ∙ sym (sets-eq bytes a.out.now a.place c.requires.fits ∙ append_assoc (take a.place a.out.now) bytes (drop (a.place + length bytes) a.out.now));
      ends = refl;
    }
