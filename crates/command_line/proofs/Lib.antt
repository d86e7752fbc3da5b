mod Reading
mod Taking
