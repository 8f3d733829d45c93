-- The beat grid of an ANLZ file: a beat (Beat), the grid's beats (Grid), and the two questions (Questions). Private has what only private
-- functions cite.
pub mod Beat
pub mod Grid
pub mod Questions
pub mod Private
