-- `table::Table::holds_codes` meets its contract: each arm is the test of `holds_codes` for its table.
use Rattle.table.specs.Table.{holds_codes}
use Rattle.table.proofs.Table.holds_codes.Goals as goal

pub returns-in-Tracks : goal.returns-in-Tracks
unfolding holds_codes
returns-in-Tracks c = rw c.in-Tracks.is

pub returns-in-Genres : goal.returns-in-Genres
unfolding holds_codes
returns-in-Genres c = rw c.in-Genres.is

pub returns-in-Artists : goal.returns-in-Artists
unfolding holds_codes
returns-in-Artists c = rw c.in-Artists.is

pub returns-in-Albums : goal.returns-in-Albums
unfolding holds_codes
returns-in-Albums c = rw c.in-Albums.is

pub returns-in-Labels : goal.returns-in-Labels
unfolding holds_codes
returns-in-Labels c = rw c.in-Labels.is

pub returns-in-Keys : goal.returns-in-Keys
unfolding holds_codes
returns-in-Keys c = rw c.in-Keys.is

pub returns-in-Colors : goal.returns-in-Colors
unfolding holds_codes
returns-in-Colors c = rw c.in-Colors.is

pub returns-in-PlaylistTree : goal.returns-in-PlaylistTree
unfolding holds_codes
returns-in-PlaylistTree c = rw c.in-PlaylistTree.is

pub returns-in-PlaylistEntries : goal.returns-in-PlaylistEntries
unfolding holds_codes
returns-in-PlaylistEntries c = rw c.in-PlaylistEntries.is

pub returns-in-Artwork : goal.returns-in-Artwork
unfolding holds_codes
returns-in-Artwork c = rw c.in-Artwork.is
