pub mod LateViews
