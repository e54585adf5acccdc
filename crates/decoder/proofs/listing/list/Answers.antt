-- `list` answers 70, or writes the listing or the line REFUSED. Assumes nothing.
use Rattle.std.proofs.Common.{lt-ltb}
use borrow.Author.Tests.{le-ltb}
use Rattle.decoder.specs.Listing.{list_of, listing_of}
use Rattle.decoder.proofs.Writing.{wrote_left}
use Rattle.decoder.proofs.listing.list.Goals as goal

pub returns-then-out-lt-LISTING_ROOM : goal.returns-then-out-lt-LISTING_ROOM
unfolding list_of
returns-then-out-lt-LISTING_ROOM c = rw (lt-ltb _ 204800 c.if-out-lt-LISTING_ROOM.true)

pub returns-in-Some : goal.returns-in-Some
unfolding list_of listing_of
returns-in-Some c =
    let words = c.in-Some.ensures in
    rw (le-ltb _ 204800 c.if-out-lt-LISTING_ROOM.false, words.accepted, ← words.lines) (wrote_left _ _ _ _ c.put_lines-end.ensures)

pub returns-in-None : goal.returns-in-None
unfolding list_of listing_of
returns-in-None c =
    let refused = c.in-None.ensures in
    rw (le-ltb _ 204800 c.if-out-lt-LISTING_ROOM.false, refused) (wrote_left _ _ _ _ c.put-end.ensures)
